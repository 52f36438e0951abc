-- The text of printed rules is their dump.
use Rattle.std.proofs.Common.{◌≡◌, ◌≢◌, ◌∙◌, ◌++◌, ◌+◌, ◌^◌, ◌<◌, ◌≤◌, ℕ, List, [], ◌∷◌, Bool, true, false, cond, Option, Some, None, map, length, refl, ap, ap₂, sym, subst₂, arith, inl, codes, append_assoc}
use Rattle.std.specs.List.{AllByRecursion, flat_map, position_from}
use Rattle.std.specs.Str.{bytes_eq}
use Rattle.std.proofs.lemmas.Iterator.Adapters.{position_from-zero}
use Rattle.std.proofs.lemmas.List.{length-map}
use Rattle.interval_set.specs.declared.set.Range.{Range}
use Rattle.interval_set.specs.Numbers.{IsSet}
use Rattle.addr_text.specs.Grammar.{IsPlain}
use Rattle.name_set.specs.declared.pattern.Pattern.{Pattern}
use Rattle.primitives.specs.declared.prim.Prim_.{Prim_}
use Rattle.fw_rule.specs.declared.rule.Chain.{Chain}
use Rattle.fw_rule.specs.declared.rule.Dump.{Dump}
use Rattle.fw_rule.specs.declared.rule.Lit.{Lit}
use Rattle.fw_rule.specs.declared.rule.Rule.{Rule}
use Rattle.fw_rule.specs.declared.rule.Verdict.{Verdict}
use Rattle.box_norm.specs.declared.cube.Cube.{Cube}
use Rattle.box_norm.specs.declared.cube.SimpleRule.{SimpleRule}
use Rattle.box_norm.specs.Regular.{EachCube, HasStates, IsRegular}
use Rattle.dump_grammar.specs.ChainLines.{built_in, is_among}
use Rattle.dump_grammar.specs.Lines.{Text, Word, bare}
use Rattle.dump_grammar.specs.Printable.{IsPrintable}
use Rattle.dump_grammar.specs.Reads.{IsDump}
use Rattle.dump_grammar.specs.Targets.{IsJump}
use Rattle.dump_print.specs.CubeLines.{choices_of, part_words}
use Rattle.dump_print.specs.Helpers.{HelpedRule, helped_from, helper_name, returned_patterns, returned_protocols, returned_types, verdict_text}
use Rattle.dump_print.specs.Names.{name_word}
use Rattle.dump_print.specs.declared.numbers.Numbers.{Numbers}
use Rattle.dump_print.specs.Parts.{option_words, protocol_words, rule_words, type_words}
use Rattle.dump_print.specs.PortCover.{CoverPorts}
use Rattle.dump_print.specs.Printed.{all_lines, chain_words, printed, target_text}
use Rattle.dump_print.specs.Numbers.{protocol_text, protocols_of}
use Rattle.box_norm.specs.Sets.{HasSets}
use Rattle.dump_print.specs.Spelling.{lines_text}
use Rattle.dump_print.specs.Written.{KeepsWords}
use Rattle.printed_filter.specs.Laws.{ArePrintable}
use Rattle.printed_filter.specs.Literals.{protocol_literals, type_literals, yes}
use Rattle.printed_filter.specs.PrintedDump.{Said, action_to, asked_rules, dump_of_helped, helper_chains_from, helpers_of, placed_from, printed_dump}
use Rattle.printed_text.specs.Names.{HasPrintableNames}
use Rattle.printed_text.proofs.Blocks.{Block, HasGoodRules, IsGoodChain, IsGoodRule, RuleText, all_words, block_names, chain_line, chains_from}
use Rattle.printed_text.proofs.ChainLemmas.{asked_by, asked_declared, asked_no_helper, asked_clean, chain_printed, helper_allowed, helper_declared, helper_no_asked, helper_clean}
use Rattle.printed_text.proofs.HelperLemmas.{asked_block, asked_line, asked_lines, asked_said, asked_words, helper_block, helper_blocks, helper_texts, helpers_chains, helpers_declared, helpers_length, helpers_words, in_text, out_text, protocol_line, return_text, return_texts, type_line, verdict_line}
use Rattle.printed_text.proofs.HelperNumbers.{IsFoundAt, IsHelperBlock, IsNumberIn, all_helped, blocks_in, helpers_apart, helpers_found, numbers_in}
use Rattle.basics.proofs.Lists.{each_append, each_contained, each_map, each_weaker}
use Rattle.printed_text.proofs.ListLemmas.{flat_since, map_since}
use Rattle.printed_text.proofs.NumberLemmas.{IsNumberBut}
use Rattle.printed_text.proofs.NumberSets.{Sayable, is_sayable, protocol_set, type_set}
use Rattle.printed_text.proofs.ReturnLemmas.{returned_printable, returned_sayable}
use Rattle.printed_text.proofs.RuleLines.{AreParts, asked_line_is_rule, asked_line_is_written, input_return, output_return, protocol_return, return_line_is_rule, return_line_is_written, type_returned, verdict_is_written, verdict_line_is_rule, verdict_line_is_written}
use Rattle.printed_text.proofs.TableLemmas.{AreGood, closer, opener, table_lines, text_is_dump}
use Rattle.printed_text.proofs.TextLines.{IsPrinted, is_printed}
use Rattle.printed_text.proofs.WordLemmas.{CanStand, clean_is_written, code_is_written}

-- a cube whose lines can be read
pub record IsFine {W : ℕ} (cube : Cube W) : Type 0 where
  pub sets : HasSets cube
  pub regular : IsRegular cube
  pub states : HasStates cube
  pub names : HasPrintableNames cube

fine_rules : {W : ℕ} (rules : List (SimpleRule W)) → EachCube HasSets rules → EachCube IsRegular rules → EachCube HasStates rules → EachCube HasPrintableNames rules → EachCube IsFine rules
fine_rules [] sets regular states names = tt
fine_rules (rule ∷ rules) sets regular states names =
    (record { sets = sets.0; regular = regular.0; states = states.0; names = names.0 }, fine_rules rules sets.1 regular.1 states.1 names.1)

asked_stands : (chain : Text) → is_among built_in chain ≡ true → CanStand (bare chain)
asked_stands = asked_by (λ chain. CanStand (bare chain)) (code_is_written (codes "INPUT") refl) (code_is_written (codes "FORWARD") refl) (code_is_written (codes "OUTPUT") refl)

helper_stands : (n : ℕ) → n < 2 ^ 64 → CanStand (bare (helper_name n))
helper_stands n small = clean_is_written (helper_name n) (omega arith) (helper_clean n small)

-- a helper's number is a number of 64 bits
abbrev IsSmall : Option ℕ → Type 0
IsSmall None = Unit {0}
IsSmall (Some n) = n < 2 ^ 64

target_stands : (accept : Bool) (helper : Option ℕ) → IsSmall helper → CanStand (bare (target_text accept helper))
target_stands accept None small = verdict_is_written accept
target_stands accept (Some n) small = helper_stands n small

-- ---- where a rule's lines lead
target_jumps : (chain : Text) (names : List Text) → is_among built_in chain ≡ true → (accept : Bool) (helper : Option ℕ) → IsSmall helper → IsFoundAt 1 names helper
    → IsJump (chain ∷ names) (target_text accept helper) [] (action_to accept helper)
target_jumps chain names asked true None small found = (refl, refl)
target_jumps chain names asked false None small found = inl (refl, refl)
target_jumps chain names asked accept (Some n) small found = (
  helper_allowed n small,
  position_from-zero (bytes_eq (helper_name n)) (chain ∷ names)
      ∙ ap (λ (b : Bool). cond b (Some 0) (position_from (bytes_eq (helper_name n)) 1 names)) (asked_no_helper n chain asked) ∙ found,
  refl,
)

-- ---- what is known of each rule with its helper
record IsReady {W : ℕ} (names : List Text) (helped : HelpedRule W) : Type 0 where
  fine : IsFine helped.rule.cube
  small : IsSmall helped.helper
  found : IsFoundAt 1 names helped.helper

small_number : (end : ℕ) → end ≤ 2 ^ 64 → (helper : Option ℕ) → IsNumberIn 1 end helper → IsSmall helper
small_number end small None is = tt
small_number end small (Some n) is = omega (arith, is.1)

ready_all : {W : ℕ} (names : List Text) (end : ℕ) → end ≤ 2 ^ 64 → (rules : List (HelpedRule W)) → AllByRecursion (λ (h : HelpedRule W). IsFine h.rule.cube) rules
    → AllByRecursion (λ (h : HelpedRule W). IsNumberIn 1 end h.helper) rules → AllByRecursion (λ (h : HelpedRule W). IsFoundAt 1 names h.helper) rules
    → AllByRecursion (IsReady names) rules
ready_all names end small [] fine is found = tt
ready_all names end small (h ∷ rules) fine is found =
    (record { fine = fine.0; small = small_number end small h.helper is.0; found = found.0 }, ready_all names end small rules fine.1 is.1 found.1)

module _ (keeps : KeepsWords) where
  -- a rule line can be read
  rule_printed : (chain : Text) (parts : List Word) (target : Text) → AllByRecursion CanStand (rule_words chain parts target) → IsPrinted (rule_words chain parts target)
  rule_printed chain parts target stands = is_printed keeps (bare (codes "-A")) (bare chain ∷ (parts ++ option_words (codes "-j") (bare target))) stands refl

  one_good_chain : {W : ℕ} (rule : SimpleRule W) (helper : Option ℕ) → IsSmall helper → AllByRecursion IsGoodChain (helper_block rule helper)
  one_good_chain rule None small = tt
  one_good_chain rule (Some n) small =
      (record { printed = chain_printed keeps (helper_name n) None (helper_clean n small); says = helper_declared n small }, tt)

  helper_chains_good : {W : ℕ} (names : List Text) (rules : List (HelpedRule W)) → AllByRecursion (IsReady names) rules → AllByRecursion IsGoodChain (helper_blocks rules)
  helper_chains_good names rules ready =
      flat_since (IsReady names) IsGoodChain (λ h. helper_block h.rule h.helper) (λ h r. one_good_chain h.rule h.helper r.small) rules ready

module _ (W : ℕ) (Reads : Text → ℕ → Type 0) (keeps : KeepsWords) (names : List Text) where
  -- ---- the lines of a helper chain
  return_good : (chain : Text) (protocols : Numbers) (words : List Word) (literals : List (Lit (Prim_ W))) → CanStand (bare chain) → AreParts Reads protocols words literals
      → IsGoodRule Reads names chain (return_text chain words literals)
  return_good chain protocols words literals stands parts = record {
    printed = rule_printed keeps chain words (codes "RETURN") (return_line_is_written W Reads chain protocols words literals parts stands);
    says = return_line_is_rule W Reads names chain protocols words literals parts;
  }

  verdict_good : (chain : Text) (accept : Bool) → CanStand (bare chain) → IsGoodRule {W = W} Reads names chain (verdict_line chain accept)
  verdict_good chain accept stands = record {
    printed = rule_printed keeps chain [] (verdict_text accept) (verdict_line_is_written chain accept stands);
    says = verdict_line_is_rule W Reads names chain accept;
  }

  in_good : (chain : Text) → CanStand (bare chain) → (pattern : Pattern) → IsPrintable pattern → IsGoodRule {W = W} Reads names chain (in_text chain pattern)
  in_good chain stands pattern is =
      return_good chain Numbers.Every (option_words (codes "-i") (name_word pattern)) (yes (Prim_.InName pattern) ∷ []) stands (input_return W Reads pattern is)

  out_good : (chain : Text) → CanStand (bare chain) → (pattern : Pattern) → IsPrintable pattern → IsGoodRule {W = W} Reads names chain (out_text chain pattern)
  out_good chain stands pattern is =
      return_good chain Numbers.Every (option_words (codes "-o") (name_word pattern)) (yes (Prim_.OutName pattern) ∷ []) stands (output_return W Reads pattern is)

  protocol_good : (chain : Text) → CanStand (bare chain) → (n : ℕ) → IsNumberBut 0 n → IsGoodRule {W = W} Reads names chain (protocol_line chain n)
  protocol_good chain stands n is =
      return_good chain Numbers.Every (option_words (codes "-p") (bare (protocol_text n))) (yes (Prim_.Proto n) ∷ []) stands (protocol_return W Reads n is)

  type_good : (chain : Text) → CanStand (bare chain) → (protocols : Numbers) → Sayable 0 protocols → (n : ℕ) → IsNumberBut 255 n
      → IsGoodRule {W = W} Reads names chain (type_line chain protocols n)
  type_good chain stands protocols says n is =
      return_good chain protocols (protocol_words protocols ++ type_words protocols (Numbers.Only n)) (protocol_literals protocols ++ type_literals protocols (Numbers.Only n)) stands
      (type_returned W Reads protocols says n is)

  returns_good : (chain : Text) (cube : Cube W) → IsFine cube → CanStand (bare chain) → AllByRecursion (IsGoodRule Reads names chain) (return_texts chain cube)
  returns_good chain cube fine stands =
      let Good = IsGoodRule {W = W} Reads names chain in
      let protocols = protocols_of cube.proto in
      let inputs = returned_patterns cube.in_name in
      let outputs = returned_patterns cube.out_name in
      let numbers = returned_protocols cube.proto in
      let types = returned_types cube.icmp in
      let said = protocol_set cube fine.regular in
      each_append Good (map (in_text chain) inputs) (map (out_text chain) outputs ++ (map (protocol_line chain) numbers ++ map (type_line chain protocols) types))
      (map_since IsPrintable Good (in_text chain) (in_good chain stands) inputs (returned_printable cube.in_name fine.names.in_name))
      (each_append Good (map (out_text chain) outputs) (map (protocol_line chain) numbers ++ map (type_line chain protocols) types)
      (map_since IsPrintable Good (out_text chain) (out_good chain stands) outputs (returned_printable cube.out_name fine.names.out_name))
      (each_append Good (map (protocol_line chain) numbers) (map (type_line chain protocols) types)
      (map_since (IsNumberBut 0) Good (protocol_line chain) (protocol_good chain stands) numbers (returned_sayable 0 cube.proto said))
      (map_since (IsNumberBut 255) Good (type_line chain protocols) (type_good chain stands protocols (is_sayable 0 cube.proto fine.sets.protocols said)) types
      (returned_sayable 255 cube.icmp (type_set cube fine.regular)))))

  helper_good : (chain : Text) (rule : SimpleRule W) → IsFine rule.cube → CanStand (bare chain) → AllByRecursion (IsGoodRule Reads names chain) (helper_texts chain rule)
  helper_good chain rule fine stands =
      each_append (IsGoodRule Reads names chain) (return_texts chain rule.cube) (verdict_line chain rule.accept ∷ [])
      (returns_good chain rule.cube fine stands) (verdict_good chain rule.accept stands, tt)

  block_good : (rule : SimpleRule W) (helper : Option ℕ) → IsFine rule.cube → IsSmall helper → AllByRecursion (HasGoodRules Reads names) (helper_block rule helper)
  block_good rule None fine small = tt
  block_good rule (Some n) fine small = (helper_good (helper_name n) rule fine (helper_stands n small), tt)

  helpers_good : (others : List Text) (rules : List (HelpedRule W)) → AllByRecursion (IsReady others) rules → AllByRecursion (HasGoodRules Reads names) (helper_blocks rules)
  helpers_good others rules ready =
      flat_since (IsReady others) (HasGoodRules Reads names) (λ h. helper_block h.rule h.helper) (λ h r. block_good h.rule h.helper r.fine r.small) rules ready

-- ---- the text of printed rules
module _ (Reads : Text → ℕ → Type 0) (text_of : ℕ → Text) (W : ℕ)
    (round : (value : ℕ) → value < 2 ^ W → Reads (text_of value) value)
    (plain : (text : Text) (value : ℕ) → Reads text value → IsPlain text)
    (kept : (rs : List Range) → IsSet 16 rs → CoverPorts rs)
    (keeps : KeepsWords) where
  asked_good : (names : List Text) (chain : Text) → is_among built_in chain ≡ true → (helped : HelpedRule W) → IsReady names helped
      → AllByRecursion (IsGoodRule Reads (chain ∷ names) chain) (asked_lines text_of chain helped)
  asked_good names chain asked helped ready =
      let cube = helped.rule.cube in
      let target = target_text helped.rule.accept helped.helper in
      let fine = ready.fine in
      let Good = IsGoodRule {W = W} Reads (chain ∷ names) chain in
      each_map Good (asked_line text_of chain helped) (choices_of cube)
      (each_contained (λ line. Good (asked_line text_of chain helped line)) (choices_of cube) (λ line there. record {
        printed = rule_printed keeps chain (part_words text_of W cube line) target
            (asked_line_is_written Reads text_of W fine.sets.source.0 round plain kept chain cube line target fine.sets fine.regular fine.states fine.names there
            (asked_stands chain asked) (target_stands helped.rule.accept helped.helper ready.small));
        says = asked_line_is_rule Reads text_of W fine.sets.source.0 round plain kept (chain ∷ names) chain cube line target (action_to helped.rule.accept helped.helper)
            fine.sets fine.regular fine.states fine.names there (target_jumps chain names asked helped.rule.accept helped.helper ready.small ready.found);
      }))

  all_asked_good : (names : List Text) (chain : Text) → is_among built_in chain ≡ true → (rules : List (HelpedRule W)) → AllByRecursion (IsReady names) rules
      → AllByRecursion (IsGoodRule Reads (chain ∷ names) chain) (flat_map (asked_lines text_of chain) rules)
  all_asked_good names chain asked rules ready =
      flat_since (IsReady names) (IsGoodRule Reads (chain ∷ names) chain) (asked_lines text_of chain) (asked_good names chain asked) rules ready

  abbrev blocks_of : Text → Verdict → List (HelpedRule W) → List (Block W)
  blocks_of chain policy rules = asked_block text_of chain policy rules ∷ helper_blocks rules

  module _ (chain : Text) (policy : Verdict) (asked : is_among built_in chain ≡ true) (rules : List (SimpleRule W)) (few : 1 + length rules ≤ 2 ^ 64) (fine : EachCube IsFine rules) where
    abbrev helped : List (HelpedRule W)
    helped = helped_from 1 rules

    abbrev helper_names : List Text
    helper_names = block_names (helper_blocks (helped_from 1 rules))

    ready : AllByRecursion (IsReady helper_names) helped
    ready = ready_all helper_names (1 + length rules) few helped (all_helped (λ (rule : SimpleRule W). IsFine rule.cube) 1 rules fine) (numbers_in 1 rules) (helpers_found 1 rules few)

    other_names : AllByRecursion (λ (b : Block W). b.name ≢ chain) (helper_blocks helped)
    other_names = each_weaker (IsHelperBlock 1 (1 + length rules)) (λ (b : Block W). b.name ≢ chain)
        (λ b is e. helper_no_asked is.number chain asked (sym is.name ∙ e)) (helper_blocks helped) (blocks_in 1 (1 + length rules) helped (numbers_in 1 rules))

    blocks_good : AreGood Reads (blocks_of chain policy helped)
    blocks_good = record {
      apart = (other_names, helpers_apart 1 rules few);
      chains = (record { printed = chain_printed keeps chain (Some policy) (asked_clean chain asked); says = asked_declared chain policy asked }, helper_chains_good keeps helper_names helped ready);
      rules = (all_asked_good helper_names chain asked helped ready, helpers_good W Reads keeps (chain ∷ helper_names) helper_names helped ready);
    }

    lines_same : table_lines (blocks_of chain policy helped) ≡ all_lines text_of W chain policy helped
    lines_same =
        ap (λ (l : List (List Word)). opener ∷ chain_words chain (Some policy) ∷ l)
        (append_assoc (map chain_line (helper_blocks helped)) (all_words (blocks_of chain policy helped)) (closer ∷ [])
        ∙ ap₂ (λ (x y : List (List Word)). x ++ (y ++ closer ∷ [])) (helpers_declared helped)
        (ap₂ (λ (x y : List (List Word)). x ++ y) (asked_words text_of chain helped) (helpers_words helped)))

    dump_same : record { chains = chains_from (2 + length (blocks_of chain policy helped)) (blocks_of chain policy helped) } ≡ dump_of_helped chain policy helped
    dump_same =
        let lines = flat_map (asked_lines text_of chain) helped in
        let start = 3 + length (helpers_of helped) in
        let begins : 2 + length (blocks_of chain policy helped) ≡ start = omega (arith, helpers_length helped) in
        let long : length lines ≡ length (flat_map asked_rules helped)
        = sym (length-map lines (λ (line : RuleText W). line.said)) ∙ ap (λ (l : List (Said W)). length l) (asked_said text_of chain helped) in
        ap (λ m. record { chains = chains_from m (blocks_of chain policy helped) }) begins
        ∙ ap₂ (λ (rs : List (Rule (Prim_ W))) (cs : List (Chain (Prim_ W))). record { chains = record { name = chain; policy = Some policy; rules = rs } ∷ cs })
        (ap (placed_from start) (asked_said text_of chain helped))
        (helpers_chains (start + length lines) helped ∙ ap (λ m. helper_chains_from (start + m) (helpers_of helped)) long)

    text_read : IsDump W Reads (printed text_of W chain policy rules) (printed_dump chain policy rules)
    text_read = subst₂ (λ (text : Text) (dump : Dump (Prim_ W)). IsDump W Reads text dump) (ap lines_text lines_same) dump_same
        (text_is_dump Reads keeps (blocks_of chain policy helped) blocks_good)

  pub read_back : (chain : Text) (policy : Verdict) (rules : List (SimpleRule W)) → is_among built_in chain ≡ true → 1 + length rules ≤ 2 ^ 64 → ArePrintable rules → EachCube HasPrintableNames rules
      → IsDump W Reads (printed text_of W chain policy rules) (printed_dump chain policy rules)
  read_back chain policy rules asked few printable names =
      text_read chain policy asked rules few (fine_rules rules printable.sets printable.regular printable.states names)
