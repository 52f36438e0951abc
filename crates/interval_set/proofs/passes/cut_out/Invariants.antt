use Rattle.std.proofs.Common.{drop, ◌-◌, length}
use Rattle.interval_set.proofs.Cuts.{Cutting}
use Rattle.interval_set.proofs.passes.cut_out.Given as goal

abbrev pub decreases-loop-j : goal.decreases-loop-j
decreases-loop-j g l = length l.initial.b - l.j

abbrev pub invariant-loop-j : goal.invariant-loop-j
invariant-loop-j g l = Cutting g.row.W l.initial.out.items l.x (drop l.from l.b) (drop l.j l.b) l.lo l.out.items
