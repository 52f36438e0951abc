use Rattle.std.proofs.Common.{◌≡◌, ◌++◌, drop}
use Rattle.region_queries.specs.Probe.{copied_rules}
use Rattle.region_queries.proofs.probing.copied_rules.Given as goal

abbrev pub invariant-loop-rule : goal.invariant-loop-rule
invariant-loop-rule g l = record {
  count : l.number ≡ l.rule-index;
  rest : l.copied.items ++ copied_rules l.own l.next l.number (drop l.rule-index l.rules) ≡ copied_rules l.own l.next 0 l.rules;
}
