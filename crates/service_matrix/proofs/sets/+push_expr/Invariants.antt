use Rattle.std.proofs.Common.{◌≡◌, ◌++◌, map, drop}
use Rattle.match_expr.specs.Primitives.{joined}
use Rattle.service_matrix.specs.inner.AddressSets.{expr_sets}
use Rattle.service_matrix.proofs.sets.+push_expr.Given as goal

abbrev pub invariant-loop-part : goal.invariant-loop-part
invariant-loop-part g l = l.out.items ++ joined (map expr_sets (drop l.part-index l.part-items)) ≡ l.fn.out.items ++ expr_sets l.expr
