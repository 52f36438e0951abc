use Rattle.std.proofs.Common.{drop, ◌+◌, ◌-◌, ◌≤◌, length}
use Rattle.interval_set.proofs.Joins.{United}
use Rattle.interval_set.proofs.passes.either.Given as goal

abbrev pub decreases-loop-i : goal.decreases-loop-i
decreases-loop-i g l = (length l.initial.a - l.i) + (length l.initial.b - l.j)

abbrev pub invariant-loop-i : goal.invariant-loop-i
invariant-loop-i g l = (l.i ≤ length l.a) × (l.j ≤ length l.b) × United g.row.W l.a l.b (drop l.i l.a) (drop l.j l.b) l.out.items
