-- The chains of printed rules: the asked chain, and a helper chain where a rule needs one.
use Rattle.std.proofs.Common.{◌≡◌, ◌∙◌, ◌++◌, ◌+◌, ℕ, List, [], ◌∷◌, Bool, Option, Some, None, map, length, refl, ap, ap₂, sym, codes, suc}
use Rattle.std.specs.List.{flat_map}
use Rattle.std.proofs.lemmas.List.{length-map, map-append}
use Rattle.primitives.specs.declared.prim.Prim_.{Prim_}
use Rattle.fw_rule.specs.declared.rule.Chain.{Chain}
use Rattle.fw_rule.specs.declared.rule.Lit.{Lit}
use Rattle.fw_rule.specs.declared.rule.Rule.{Rule}
use Rattle.fw_rule.specs.declared.rule.Verdict.{Verdict}
use Rattle.box_norm.specs.declared.cube.Cube.{Cube}
use Rattle.box_norm.specs.declared.cube.SimpleRule.{SimpleRule}
use Rattle.dump_grammar.specs.Lines.{Text, Word, bare}
use Rattle.dump_print.specs.CubeLines.{choices_of, part_words}
use Rattle.dump_print.specs.declared.numbers.Numbers.{Numbers}
use Rattle.dump_print.specs.Helpers.{HelpedRule, helper_lines, helper_name, return_where, returned_patterns, returned_protocols, returned_types, verdict_text}
use Rattle.dump_print.specs.Names.{name_word}
use Rattle.dump_print.specs.Parts.{Choice, option_words, protocol_words, rule_words, type_words}
use Rattle.dump_print.specs.Printed.{declared_helper, lines_of_helper, lines_of_rule, target_text}
use Rattle.dump_print.specs.Numbers.{protocol_text, protocols_of}
use Rattle.name_set.specs.declared.pattern.Pattern.{Pattern}
use Rattle.printed_filter.specs.Literals.{line_literals, protocol_literals, type_literals, yes}
use Rattle.printed_filter.specs.PrintedDump.{Helper, Said, action_to, asked_rules, back_where, helper_chains_from, helper_of, helper_rules, helpers_of, placed_from, verdict_action}
use Rattle.printed_text.proofs.Blocks.{Block, RuleText, all_words, chain_line, chains_from, said_of, words_of}
use Rattle.basics.proofs.Lists.{map_map}
use Rattle.printed_text.proofs.ListLemmas.{flat_same, map_flat}

module _ {W : ℕ} where
  -- ---- the lines of a helper chain
  abbrev pub return_text : Text → List Word → List (Lit (Prim_ W)) → RuleText W
  return_text chain parts literals = record { words = return_where chain parts; said = back_where literals }

  abbrev pub in_text : Text → Pattern → RuleText W
  in_text chain pattern = return_text chain (option_words (codes "-i") (name_word pattern)) (yes (Prim_.InName pattern) ∷ [])

  abbrev pub out_text : Text → Pattern → RuleText W
  out_text chain pattern = return_text chain (option_words (codes "-o") (name_word pattern)) (yes (Prim_.OutName pattern) ∷ [])

  abbrev pub protocol_line : Text → ℕ → RuleText W
  protocol_line chain n = return_text chain (option_words (codes "-p") (bare (protocol_text n))) (yes (Prim_.Proto n) ∷ [])

  abbrev pub type_line : Text → Numbers → ℕ → RuleText W
  type_line chain protocols n =
      return_text chain (protocol_words protocols ++ type_words protocols (Numbers.Only n)) (protocol_literals protocols ++ type_literals protocols (Numbers.Only n))

  abbrev pub return_texts : Text → Cube W → List (RuleText W)
  return_texts chain cube =
      map (in_text chain) (returned_patterns cube.in_name)
      ++ (map (out_text chain) (returned_patterns cube.out_name)
      ++ (map (protocol_line chain) (returned_protocols cube.proto)
      ++ map (type_line chain (protocols_of cube.proto)) (returned_types cube.icmp)))

  abbrev pub verdict_line : Text → Bool → RuleText W
  verdict_line chain accept = record {
    words = rule_words chain [] (verdict_text accept);
    said = record { literals = []; action = verdict_action accept };
  }

  abbrev pub helper_texts : Text → SimpleRule W → List (RuleText W)
  helper_texts chain rule = return_texts chain rule.cube ++ verdict_line chain rule.accept ∷ []

  -- a view of each line of a helper chain
  lines_seen : {X : Type 0} (see : RuleText W → X) (chain : Text) (rule : SimpleRule W) → map see (helper_texts chain rule)
      ≡ (map (λ pattern. see (in_text chain pattern)) (returned_patterns rule.cube.in_name)
      ++ (map (λ pattern. see (out_text chain pattern)) (returned_patterns rule.cube.out_name)
      ++ (map (λ n. see (protocol_line chain n)) (returned_protocols rule.cube.proto)
      ++ map (λ n. see (type_line chain (protocols_of rule.cube.proto) n)) (returned_types rule.cube.icmp))))
      ++ see (verdict_line chain rule.accept) ∷ []
  lines_seen {X} see chain rule =
      let a = map (in_text chain) (returned_patterns rule.cube.in_name) in
      let b = map (out_text chain) (returned_patterns rule.cube.out_name) in
      let c = map (protocol_line chain) (returned_protocols rule.cube.proto) in
      let d = map (type_line chain (protocols_of rule.cube.proto)) (returned_types rule.cube.icmp) in
      let last = verdict_line chain rule.accept ∷ [] in
      map-append see (a ++ (b ++ (c ++ d))) last
      ∙ ap (λ (xs : List X). xs ++ map see last)
      (map-append see a (b ++ (c ++ d))
      ∙ ap₂ (λ (xs ys : List X). xs ++ ys) (map_map see (in_text chain) (returned_patterns rule.cube.in_name))
      (map-append see b (c ++ d)
      ∙ ap₂ (λ (xs ys : List X). xs ++ ys) (map_map see (out_text chain) (returned_patterns rule.cube.out_name))
      (map-append see c d
      ∙ ap₂ (λ (xs ys : List X). xs ++ ys) (map_map see (protocol_line chain) (returned_protocols rule.cube.proto))
      (map_map see (type_line chain (protocols_of rule.cube.proto)) (returned_types rule.cube.icmp)))))

  helper_words : (chain : Text) (rule : SimpleRule W) → words_of (helper_texts chain rule) ≡ helper_lines chain rule
  helper_words chain rule = lines_seen (λ (line : RuleText W). line.words) chain rule

  helper_said : (chain : Text) (rule : SimpleRule W) → said_of (helper_texts chain rule) ≡ helper_rules rule
  helper_said chain rule = lines_seen (λ (line : RuleText W). line.said) chain rule

  -- ---- the helper chains
  abbrev pub helper_block : SimpleRule W → Option ℕ → List (Block W)
  helper_block rule None = []
  helper_block rule (Some n) = record { name = helper_name n; policy = None; lines = helper_texts (helper_name n) rule } ∷ []

  abbrev pub helper_blocks : List (HelpedRule W) → List (Block W)
  helper_blocks rules = flat_map (λ (helped : HelpedRule W). helper_block helped.rule helped.helper) rules

  one_declared : (rule : SimpleRule W) (helper : Option ℕ) → map chain_line (helper_block rule helper) ≡ declared_helper helper
  one_declared rule None = refl
  one_declared rule (Some n) = refl

  pub helpers_declared : (rules : List (HelpedRule W)) → map chain_line (helper_blocks rules) ≡ flat_map (λ (helped : HelpedRule W). declared_helper helped.helper) rules
  helpers_declared [] = refl
  helpers_declared (helped ∷ rules) =
      map-append chain_line (helper_block helped.rule helped.helper) (helper_blocks rules)
      ∙ ap₂ (λ (a b : List (List Word)). a ++ b) (one_declared helped.rule helped.helper) (helpers_declared rules)

  one_words : (rule : SimpleRule W) (helper : Option ℕ) (rest : List (Block W)) (lines : List (List Word)) → all_words rest ≡ lines
      → all_words (helper_block rule helper ++ rest) ≡ lines_of_helper rule helper ++ lines
  one_words rule None rest lines e = e
  one_words rule (Some n) rest lines e = ap₂ (λ (a b : List (List Word)). a ++ b) (helper_words (helper_name n) rule) e

  pub helpers_words : (rules : List (HelpedRule W)) → all_words (helper_blocks rules) ≡ flat_map (λ (helped : HelpedRule W). lines_of_helper helped.rule helped.helper) rules
  helpers_words [] = refl
  helpers_words (helped ∷ rules) = one_words helped.rule helped.helper (helper_blocks rules) _ (helpers_words rules)

  one_length : (rule : SimpleRule W) (helper : Option ℕ) (rest : List (Block W)) (helpers : List (Helper W)) → length rest ≡ length helpers
      → length (helper_block rule helper ++ rest) ≡ length (helper_of rule helper ++ helpers)
  one_length rule None rest helpers e = e
  one_length rule (Some n) rest helpers e = ap (λ m. suc m) e

  pub helpers_length : (rules : List (HelpedRule W)) → length (helper_blocks rules) ≡ length (helpers_of rules)
  helpers_length [] = refl
  helpers_length (helped ∷ rules) = one_length helped.rule helped.helper (helper_blocks rules) (helpers_of rules) (helpers_length rules)

  -- the rules of one helper chain, and the chains after it
  one_chain : (rule : SimpleRule W) (helper : Option ℕ) (rest : List (Block W)) (helpers : List (Helper W)) (m : ℕ) → ((k : ℕ) → chains_from k rest ≡ helper_chains_from k helpers)
      → chains_from m (helper_block rule helper ++ rest) ≡ helper_chains_from m (helper_of rule helper ++ helpers)
  one_chain rule None rest helpers m e = e m
  one_chain rule (Some n) rest helpers m e =
      let lines = helper_texts (helper_name n) rule in
      let same = helper_said (helper_name n) rule in
      let long : length lines ≡ length (helper_rules rule) = sym (length-map lines (λ (line : RuleText W). line.said)) ∙ ap (λ (l : List (Said W)). length l) same in
      ap₂ (λ (rs : List (Rule (Prim_ W))) (cs : List (Chain (Prim_ W))). record { name = helper_name n; policy = None; rules = rs } ∷ cs)
      (ap (placed_from m) same) (e (m + length lines) ∙ ap (λ k. helper_chains_from (m + k) helpers) long)

  pub helpers_chains : (m : ℕ) (rules : List (HelpedRule W)) → chains_from m (helper_blocks rules) ≡ helper_chains_from m (helpers_of rules)
  helpers_chains m [] = refl
  helpers_chains m (helped ∷ rules) = one_chain helped.rule helped.helper (helper_blocks rules) (helpers_of rules) m (λ k. helpers_chains k rules)

module _ (text_of : ℕ → Text) {W : ℕ} where
  -- ---- the lines of the asked chain
  abbrev pub asked_line : Text → HelpedRule W → Choice → RuleText W
  asked_line chain helped line = record {
    words = rule_words chain (part_words text_of W helped.rule.cube line) (target_text helped.rule.accept helped.helper);
    said = record { literals = line_literals helped.rule.cube line; action = action_to helped.rule.accept helped.helper };
  }

  abbrev pub asked_lines : Text → HelpedRule W → List (RuleText W)
  asked_lines chain helped = map (asked_line chain helped) (choices_of helped.rule.cube)

  abbrev pub asked_block : Text → Verdict → List (HelpedRule W) → Block W
  asked_block chain policy rules = record { name = chain; policy = Some policy; lines = flat_map (asked_lines chain) rules }

  pub asked_words : (chain : Text) (rules : List (HelpedRule W)) → words_of (flat_map (asked_lines chain) rules) ≡ flat_map (lines_of_rule text_of W chain) rules
  asked_words chain rules =
      map_flat (λ (line : RuleText W). line.words) (asked_lines chain) rules
      ∙ flat_same (λ (helped : HelpedRule W). words_of (asked_lines chain helped)) (lines_of_rule text_of W chain)
      (λ helped. map_map (λ (line : RuleText W). line.words) (asked_line chain helped) (choices_of helped.rule.cube)) rules

  pub asked_said : (chain : Text) (rules : List (HelpedRule W)) → said_of (flat_map (asked_lines chain) rules) ≡ flat_map asked_rules rules
  asked_said chain rules =
      map_flat (λ (line : RuleText W). line.said) (asked_lines chain) rules
      ∙ flat_same (λ (helped : HelpedRule W). said_of (asked_lines chain helped)) asked_rules
      (λ helped. map_map (λ (line : RuleText W). line.said) (asked_line chain helped) (choices_of helped.rule.cube)) rules
