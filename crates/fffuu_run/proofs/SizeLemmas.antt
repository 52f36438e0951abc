-- How many rules and unknown literals a dump has at most.
use Rattle.std.proofs.Common.{◌<◌, ◌≤◌, ◌^◌, arith}
use Rattle.std.proofs.lemmas.List.Elements.{All-weaker}
use Rattle.std.proofs.lemmas.List.Sums.{count_by-le-length, sum_by-le}
use Rattle.fw_rule.specs.declared.rule.Rule.{Rule}
use Rattle.fw_rule.specs.declared.rule.Chain.{Chain}
use Rattle.fw_rule.specs.declared.rule.Dump.{Dump}
use Rattle.fw_rule.specs.Calls.{ChainHasRoom, HasRoom, RuleHasRoom}
use Rattle.fw_rule.specs.Matching.{is_unknown}
use Rattle.fffuu_run.specs.Counts.{rule_count, rules_in_chain, unknown_count, unknown_in_chain, unknown_in_rule}

module _ {P : Type 0} where
  pub few_rules : (dump : Dump P) → HasRoom dump → rule_count dump < 2 ^ 64
  few_rules dump room =
      let each = All-weaker ChainHasRoom (λ (here : Chain P). rules_in_chain here ≤ 4294967295) (λ (here : Chain P) h. omega (arith, h.0)) dump.chains room.1 in
      omega (arith, room.0, sum_by-le rules_in_chain 4294967295 dump.chains each)

  few_in_chain : (here : Chain P) → ChainHasRoom here → unknown_in_chain here ≤ 18446744065119617025
  few_in_chain here room =
      let each = All-weaker RuleHasRoom (λ (rule : Rule P). unknown_in_rule rule ≤ 4294967295)
      (λ (rule : Rule P) h. omega (arith, h, count_by-le-length is_unknown rule.lits)) here.rules room.1 in
      omega (arith, room.0, sum_by-le unknown_in_rule 4294967295 here.rules each)

  pub few_unknown : (dump : Dump P) → HasRoom dump → unknown_count dump < 2 ^ 128
  few_unknown dump room =
      let each = All-weaker ChainHasRoom (λ (here : Chain P). unknown_in_chain here ≤ 18446744065119617025) few_in_chain dump.chains room.1 in
      omega (arith, room.0, sum_by-le unknown_in_chain 18446744065119617025 dump.chains each)
