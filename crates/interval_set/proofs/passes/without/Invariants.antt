use Rattle.std.proofs.Common.{drop}
use Rattle.interval_set.proofs.Cuts.{Taken}
use Rattle.interval_set.proofs.passes.without.Given as goal

abbrev pub invariant-loop-x : goal.invariant-loop-x
invariant-loop-x g l = Taken g.row.W l.a l.b (drop l.x-index l.a) (drop l.j l.b) l.out.items
