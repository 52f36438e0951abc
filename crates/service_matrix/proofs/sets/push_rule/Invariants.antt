use Rattle.std.proofs.Common.{◌≡◌, ◌++◌, map, drop}
use Rattle.match_expr.specs.Primitives.{joined}
use Rattle.service_matrix.specs.inner.AddressSets.{literal_sets, rule_sets}
use Rattle.service_matrix.proofs.sets.push_rule.Given as goal

abbrev pub invariant-loop-lit : goal.invariant-loop-lit
invariant-loop-lit g l = l.out.items ++ joined (map literal_sets (drop l.lit-index l.lit-items)) ≡ l.fn.out.items ++ rule_sets l.rule
