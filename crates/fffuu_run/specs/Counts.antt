-- How large a filter table is.
use Rattle.std.specs.Prelude.{ℕ, List, [], ◌∷◌, ◌++◌, codes, decimal, length}
use Rattle.std.specs.List.{count_by, sum_by}
use Rattle.fw_rule.specs.declared.rule.Rule.{Rule}
use Rattle.fw_rule.specs.declared.rule.Chain.{Chain}
use Rattle.fw_rule.specs.declared.rule.Dump.{Dump}
use Rattle.fw_rule.specs.Matching.{is_unknown}

module _ {P : Type 0} where
  abbrev pub unknown_in_rule : Rule P → ℕ
  unknown_in_rule rule = count_by is_unknown rule.lits

  abbrev pub unknown_in_chain : Chain P → ℕ
  unknown_in_chain here = sum_by unknown_in_rule here.rules

  abbrev pub rules_in_chain : Chain P → ℕ
  rules_in_chain here = length here.rules

  -- the rules of all chains
  abbrev pub rule_count : Dump P → ℕ
  rule_count dump = sum_by rules_in_chain dump.chains

  -- the unknown literals of all rules
  abbrev pub unknown_count : Dump P → ℕ
  unknown_count dump = sum_by unknown_in_chain dump.chains

  -- the line of counts: chains, rules and unknown literals of the whole table, in reach or not
  abbrev pub counts_line : Dump P → List ℕ
  counts_line dump = codes "ok chains " ++ decimal (length dump.chains) ++ codes " rules " ++ decimal (rule_count dump)
      ++ codes " unknown " ++ decimal (unknown_count dump) ++ 10 ∷ []
