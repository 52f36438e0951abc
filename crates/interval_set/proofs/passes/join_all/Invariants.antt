use Rattle.std.proofs.Common.{drop, []}
use Rattle.interval_set.proofs.Joins.{United}
use Rattle.interval_set.proofs.passes.join_all.Given as goal

abbrev pub invariant-loop-x : goal.invariant-loop-x
invariant-loop-x g l = United g.row.W l.initial.out.items l.rest (drop l.x-index l.rest) [] l.out.items
