use Rattle.std.proofs.Common.{◌≡◌, ◌≤◌, ◌-◌, ℕ, List}
use Rattle.limits.specs.declared.TheConstants.{MOST_BYTES}
use Rattle.fffuu_run.proofs.Feeding.{HasFed}
use Rattle.fffuu_run.proofs.reading.read_through.Given as goal

abbrev pub invariant-loop-count : goal.invariant-loop-count
invariant-loop-count g l = (l.size ≤ MOST_BYTES)
    × (g.S.Source.faults l.source ≡ g.S.Source.faults l.initial.source)
    × ((text : List ℕ) × HasFed (g.T.Taker.taken l.taker) text l.size
    (g.S.Source.left l.initial.source) (g.S.Source.left l.source) (g.S.Source.given l.initial.source) (g.S.Source.given l.source))

abbrev pub decreases-loop-count : goal.decreases-loop-count
decreases-loop-count g l = MOST_BYTES - l.size
