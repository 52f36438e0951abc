use Rattle.std.proofs.Common.{◌≡◌, ◌++◌, map, drop}
use Rattle.match_expr.specs.Primitives.{joined}
use Rattle.service_matrix.specs.inner.AddressSets.{all_sets, rule_sets}
use Rattle.service_matrix.proofs.sets.push_rules.Given as goal

abbrev pub invariant-loop-rule : goal.invariant-loop-rule
invariant-loop-rule g l = l.out.items ++ joined (map rule_sets (drop l.rule-index l.rules)) ≡ l.fn.out.items ++ all_sets l.rules
