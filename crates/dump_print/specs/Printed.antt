-- The whole text of a filter.
use Rattle.std.specs.Prelude.{ℕ, ◌++◌, ◌∷◌, [], length, List, Option, Some, None, map, codes, Bool}
use Rattle.std.specs.List.{flat_map}
use Rattle.fw_rule.specs.declared.rule.Verdict.{Verdict}
use Rattle.box_norm.specs.declared.cube.SimpleRule.{SimpleRule}
use Rattle.dump_grammar.specs.ChainLines.{policy_text}
use Rattle.dump_grammar.specs.Lines.{Text, Word, bare}
use Rattle.dump_print.specs.CubeLines.{choices_of, part_words}
use Rattle.dump_print.specs.Helpers.{HelpedRule, helped_from, helper_lines, helper_name, verdict_text}
use Rattle.dump_print.specs.Parts.{rule_words}
use Rattle.dump_print.specs.Spelling.{lines_text}

-- `:CHAIN POLICY [0:0]`
abbrev pub chain_words : Text → Option Verdict → List Word
chain_words name policy = bare (58 ∷ name) ∷ bare (policy_text policy) ∷ bare (codes "[0:0]") ∷ []

-- where the lines of a rule lead: to its verdict, or to its helper chain
abbrev pub target_text : Bool → Option ℕ → Text
target_text accept None = verdict_text accept
target_text accept (Some n) = helper_name n

-- the line that declares a rule's helper chain
abbrev pub declared_helper : Option ℕ → List (List Word)
declared_helper None = []
declared_helper (Some n) = chain_words (helper_name n) None ∷ []

-- the lines of a rule's helper chain
abbrev pub lines_of_helper : {W : ℕ} → SimpleRule W → Option ℕ → List (List Word)
lines_of_helper rule None = []
lines_of_helper rule (Some n) = helper_lines (helper_name n) rule

-- `text_of` is the one text of an address of `W` bits
module _ (text_of : ℕ → Text) (W : ℕ) where
  -- a rule's lines in the asked chain
  abbrev pub lines_of_rule : Text → HelpedRule W → List (List Word)
  lines_of_rule chain helped = map
      (λ line. rule_words chain (part_words text_of W helped.rule.cube line) (target_text helped.rule.accept helped.helper))
      (choices_of helped.rule.cube)

  -- all rule lines: those of the asked chain, then those of each helper chain
  abbrev pub all_rule_lines : Text → List (HelpedRule W) → List (List Word)
  all_rule_lines chain rules =
      flat_map (lines_of_rule chain) rules ++ flat_map (λ helped. lines_of_helper helped.rule helped.helper) rules

  -- the lines of the text: the table opens, chains are declared, rules follow, and the table closes
  abbrev pub all_lines : Text → Verdict → List (HelpedRule W) → List (List Word)
  all_lines chain policy rules =
      (bare (codes "*filter") ∷ []) ∷ chain_words chain (Some policy) ∷
      (flat_map (λ helped. declared_helper helped.helper) rules ++ (all_rule_lines chain rules ++ (bare (codes "COMMIT") ∷ []) ∷ []))

  -- the text of a chain with this policy and these rules
  abbrev pub printed : Text → Verdict → List (SimpleRule W) → Text
  printed chain policy rules = lines_text (all_lines chain policy (helped_from 1 rules))

  -- how many rule lines it has
  abbrev pub count_lines : Text → List (SimpleRule W) → ℕ
  count_lines chain rules = length (all_rule_lines chain (helped_from 1 rules))
