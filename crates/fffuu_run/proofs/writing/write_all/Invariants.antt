use Rattle.std.proofs.Common.{◌≡◌, length, ◌-◌, ◌++◌, ◌≤◌, take}
use Rattle.std.specs.Io.KnownBytes.{Appends}
use Rattle.fffuu_run.proofs.writing.write_all.Given as goal

abbrev pub invariant-loop-at : goal.invariant-loop-at
invariant-loop-at g l = (l.at ≤ length l.text)
    × Appends (g.O.Sink.held l.initial.out) (g.O.Sink.held l.out) (take l.at l.text)
    × (g.O.Sink.faults l.initial.out ≤ g.O.Sink.faults l.out)
    × (g.O.Sink.faults l.out ≡ g.O.Sink.faults l.initial.out)
    × (g.O.Sink.acknowledged l.out ≡ g.O.Sink.acknowledged l.initial.out ++ take l.at l.text)

abbrev pub decreases-loop-at : goal.decreases-loop-at
decreases-loop-at g l = length l.text - l.at
