-- Each rule line that is printed is the rule that it is meant to be, and its words can stand in a line.
use Rattle.std.proofs.Common.{◌≡◌, ◌∙◌, ◌++◌, ◌∷◌, ◌^◌, ◌<◌, ◌≤◌, ◌||◌, ◌&&◌, ◌==◌, [], ℕ, List, Bool, true, false, None, inl, inr, refl, ap, subst, codes, append_assoc, append-nil, Contains}
use Rattle.std.specs.List.{AllByRecursion}
use Rattle.std.proofs.lemmas.List.Elements.{Contains-append_left, Contains-append_right}
use Rattle.std.proofs.lemmas.Bool.{and_parts}
use Rattle.interval_set.specs.declared.set.Range.{Range}
use Rattle.interval_set.specs.Numbers.{IsSet, IsWidth}
use Rattle.addr_text.specs.Grammar.{IsPlain}
use Rattle.name_set.specs.declared.pattern.Pattern.{Pattern}
use Rattle.primitives.specs.declared.prim.Prim_.{Prim_}
use Rattle.fw_rule.specs.declared.rule.Action.{Action}
use Rattle.fw_rule.specs.declared.rule.Lit.{Lit}
use Rattle.box_norm.specs.declared.cube.Cube.{Cube}
use Rattle.box_norm.specs.Regular.{HasStates, IsRegular}
use Rattle.box_norm.specs.Cubes.{has_no_name, has_no_range, is_none}
use Rattle.opt_table.specs.Options.{destination_ports, source_ports}
use Rattle.dump_grammar.specs.Groups.{AreGroups, Base, Group, all_differ}
use Rattle.dump_grammar.specs.Lines.{Text, Word, bare}
use Rattle.dump_grammar.specs.Literals.{AreLiterals}
use Rattle.dump_grammar.specs.Printable.{IsPrintable}
use Rattle.dump_grammar.specs.declared.rule.Target.{Target}
use Rattle.dump_grammar.specs.RuleLines.{IsRuleLine}
use Rattle.dump_grammar.specs.Targets.{IsJump}
use Rattle.dump_print.specs.declared.numbers.Numbers.{Numbers}
use Rattle.dump_print.specs.CubeLines.{base_option_words, choices_of, module_option_words, part_words}
use Rattle.dump_print.specs.Helpers.{return_where, verdict_text}
use Rattle.dump_print.specs.Names.{name_word}
use Rattle.dump_print.specs.Parts.{Choice, iprange_words, listed_words, option_words, own_module_words, own_words, protocol_words, rule_words, state_words, type_words}
use Rattle.dump_print.specs.PortCover.{CoverPorts}
use Rattle.dump_print.specs.Numbers.{number_of, protocol_text, protocols_of, types_of}
use Rattle.box_norm.specs.Sets.{HasSets}
use Rattle.printed_filter.specs.Literals.{base_literals, line_literals, listed_literals, module_literals, own_module_literals, protocol_literals, range_literals, state_literals, type_literals, yes}
use Rattle.printed_filter.specs.PrintedDump.{verdict_action}
use Rattle.printed_text.specs.Names.{HasPrintableNames}
use Rattle.printed_text.proofs.AddressParts.{destination_part, ranges_part, source_part}
use Rattle.printed_text.proofs.ChoiceLemmas.{IsSayable, line_sayable}
use Rattle.printed_text.proofs.NameParts.{input_part, inputs_part, output_part, outputs_part}
use Rattle.printed_text.proofs.NumberLemmas.{IsNumberBut}
use Rattle.printed_text.proofs.NumberSets.{Sayable, is_sayable, protocol_set, type_set}
use Rattle.printed_text.proofs.PartLemmas.{IsPart, chosen, join_parts, no_part}
use Rattle.printed_text.proofs.PortParts.{destination_list_part, own_part, source_list_part, state_part}
use Rattle.printed_text.proofs.ProtocolParts.{Knowing, protocol_part, protocols_part}
use Rattle.printed_text.proofs.TypeParts.{types_part}
use Rattle.printed_text.proofs.WordLemmas.{CanStand, code_is_written}
use Rattle.basics.proofs.Lists.{each_append}
use Rattle.printed_text.proofs.WordListLemmas.{some_from}

-- ---- no option stands twice
abbrev all_bools : (Bool → Bool) → Bool
all_bools f = f true && f false

bool_at : (f : Bool → Bool) → all_bools f ≡ true → (b : Bool) → f b ≡ true
bool_at f e true = (and_parts (f true) (f false) e).0
bool_at f e false = (and_parts (f true) (f false) e).1

-- the options of a line, of which each may be missing
abbrev line_options : Bool → Bool → Bool → Bool → Bool → List Text
line_options source destination input output protocol =
    chosen source (codes "-s") ++ (chosen destination (codes "-d") ++ (chosen input (codes "-i") ++ (chosen output (codes "-o") ++ chosen protocol (codes "-p"))))

options_differ : (a b c d e : Bool) → all_differ (line_options a b c d e) ≡ true
options_differ a b c d =
    bool_at (λ e. all_differ (line_options a b c d e))
    (bool_at (λ d. all_bools (λ e. all_differ (line_options a b c d e)))
    (bool_at (λ c. all_bools (λ d. all_bools (λ e. all_differ (line_options a b c d e))))
    (bool_at (λ b. all_bools (λ c. all_bools (λ d. all_bools (λ e. all_differ (line_options a b c d e)))))
    (bool_at (λ a. all_bools (λ b. all_bools (λ c. all_bools (λ d. all_bools (λ e. all_differ (line_options a b c d e)))))) refl a) b) c) d)

-- ---- what the groups of a line know
knows_left : (protocols : Numbers) (a b : List Group) → Knowing protocols a → Knowing protocols (a ++ b)
knows_left Numbers.Every a b knows = tt
knows_left (Numbers.Only n) a b knows = Contains-append_left a b (Base false (codes "-p") (protocol_text n ∷ [])) knows
knows_left (Numbers.AllBut n) a b knows = tt
knows_left Numbers.Others a b knows = tt

knows_right : (protocols : Numbers) (a b : List Group) → Knowing protocols b → Knowing protocols (a ++ b)
knows_right Numbers.Every a b knows = tt
knows_right (Numbers.Only n) a b knows = Contains-append_right a b (Base false (codes "-p") (protocol_text n ∷ [])) knows
knows_right (Numbers.AllBut n) a b knows = tt
knows_right Numbers.Others a b knows = tt

-- ---- the states of a cube
later_false : (a b : Bool) → (a || b) ≡ false → b ≡ false
later_false true b e = let wrong : true ≡ false = e in cc
later_false false b e = e

first_false : (a b : Bool) → (a || b) ≡ false → a ≡ false
first_false true b e = e
first_false false b e = refl

some_state : {W : ℕ} (c : Cube W) → is_none c ≡ false → 1 ≤ c.state
some_state c e =
    some_from c.state
    (first_false (c.state == 0) (has_no_range c.icmp)
    (later_false (c.flags == 0) _
    (later_false (has_no_range c.dport) _ (later_false (has_no_range c.sport) _ (later_false (has_no_range c.proto) _ (later_false (has_no_range c.dst) _
    (later_false (has_no_range c.src) _ (later_false (has_no_name c.out_name) _ (later_false (has_no_name c.in_name) _ e)))))))))

-- ---- a line
target_written : (target : Text) → CanStand (bare target) → AllByRecursion CanStand (option_words (codes "-j") (bare target))
target_written target written = (code_is_written (codes "-j") refl, (written, tt))

line_written : (chain target : Text) (words : List Word) → CanStand (bare chain) → AllByRecursion CanStand words → CanStand (bare target)
    → AllByRecursion CanStand (rule_words chain words target)
line_written chain target words named parts written =
    (code_is_written (codes "-A") refl, (named, each_append CanStand words (option_words (codes "-j") (bare target)) parts (target_written target written)))

module _ {W : ℕ} (Reads : Text → ℕ → Type 0) where
  -- the words are the parts of a line that give these literals: what the parts have to know is known, and no option stands twice
  pub record AreParts (protocols : Numbers) (words : List Word) (literals : List (Lit (Prim_ W))) : Type 0 where
    pub options : List Text
    pub part : IsPart Reads (Knowing protocols) options words literals
    pub knows : Knowing protocols part.groups
    pub differ : all_differ options ≡ true

  pub parts_are_rule : (names : List Text) (chain target : Text) (action : Action) (protocols : Numbers) (words : List Word) (literals : List (Lit (Prim_ W)))
      → AreParts protocols words literals → IsJump names target [] action
      → IsRuleLine Reads names (rule_words chain words target) (record { chain = chain; literals = literals; target = Target.Does action })
  parts_are_rule names chain target action protocols words literals parts jump = let part = parts.part in record {
    rest = words ++ option_words (codes "-j") (bare target);
    head = ([], bare chain, (tt, refl, refl));
    target = option_words (codes "-j") (bare target);
    groups = part.groups;
    grouped = subst (λ (gs : List Group). AreGroups None (words ++ option_words (codes "-j") (bare target)) gs (option_words (codes "-j") (bare target))) (append-nil part.groups)
        (part.divides None (option_words (codes "-j") (bare target)) [] (option_words (codes "-j") (bare target)) (λ next. refl));
    once = ap all_differ part.based ∙ parts.differ;
    literals = subst (λ (gs : List Group). AreLiterals Reads part.groups gs literals) (append-nil part.groups)
        (subst (λ (ls : List (Lit (Prim_ W))). AreLiterals Reads part.groups (part.groups ++ []) ls) (append-nil literals) (part.gives part.groups parts.knows [] [] refl));
    targeted = inr (inl (bare target, [], (refl, jump)));
  }

-- ---- the lines of a cube
module _ (Reads : Text → ℕ → Type 0) (text_of : ℕ → Text) (W : ℕ) (width : IsWidth W)
    (round : (value : ℕ) → value < 2 ^ W → Reads (text_of value) value)
    (plain : (text : Text) (value : ℕ) → Reads text value → IsPlain text)
    (kept : (rs : List Range) → IsSet 16 rs → CoverPorts rs) where
  modules_part : (cube : Cube W) (line : Choice) → HasSets cube → IsRegular cube → HasStates cube → IsSayable W (protocols_of cube.proto) line
      → IsPart Reads (Knowing (protocols_of cube.proto)) [] (module_option_words text_of W cube line) (module_literals cube line)
  modules_part cube line sets regular states says =
      let protocols = protocols_of cube.proto in
      let types = types_of cube.icmp in
      let number = number_of protocols in
      let Knows = Knowing protocols in
      let own = own_words line.sports line.dports line.flags in
      let sources = listed_literals (source_ports number) line.sports in
      let destinations = listed_literals (destination_ports number) line.dports in
      subst (λ (ls : List (Lit (Prim_ W))). IsPart Reads Knows [] (module_option_words text_of W cube line) ls)
      (append_assoc (range_literals Prim_.Src line.source) (range_literals Prim_.Dst line.destination)
      (own_module_literals protocols line ++ (type_literals protocols types ++ (sources ++ (destinations ++ state_literals cube.state)))))
      (join_parts Reads Knows [] [] (iprange_words text_of W line.source line.destination) _ (range_literals Prim_.Src line.source ++ range_literals Prim_.Dst line.destination) _
      (ranges_part Reads Knows text_of width round plain line.source line.destination says.source says.destination)
      (join_parts Reads Knows [] [] (own_module_words protocols own) _ (own_module_literals protocols line) _
      (own_part Reads Knows protocols line says.sports says.dports says.flags)
      (join_parts Reads Knows [] [] (type_words protocols types) _ (type_literals protocols types) _
      (types_part Reads Knows protocols types (is_sayable 255 cube.icmp sets.types (type_set cube regular)))
      (join_parts Reads Knows [] [] (listed_words (codes "--sports") line.sports) _ sources _
      (source_list_part Reads protocols line.sports says.sports)
      (join_parts Reads Knows [] [] (listed_words (codes "--dports") line.dports) (state_words cube.state) destinations (state_literals cube.state)
      (destination_list_part Reads protocols line.dports says.dports)
      (state_part Reads Knows cube.state (some_state cube regular.some) states))))))

  line_parts : (cube : Cube W) (line : Choice) → HasSets cube → IsRegular cube → HasStates cube → HasPrintableNames cube → Contains (choices_of cube) line
      → AreParts Reads (protocols_of cube.proto) (part_words text_of W cube line) (line_literals cube line)
  line_parts cube line sets regular states printable there =
      let protocols = protocols_of cube.proto in
      let Knows = Knowing protocols in
      let says = line_sayable cube line kept sets regular there in
      let source = source_part Reads Knows text_of width round plain line.source says.source in
      let destination = destination_part Reads Knows text_of width round plain line.destination says.destination in
      let input = inputs_part Reads Knows cube.in_name printable.in_name in
      let output = outputs_part Reads Knows cube.out_name printable.out_name in
      let protocol = protocols_part W Reads protocols (is_sayable 0 cube.proto sets.protocols (protocol_set cube regular)) in
      let modules = modules_part cube line sets regular states says in
      let four = join_parts Reads Knows _ _ _ _ _ _ output.part protocol.maybe.part in
      let three = join_parts Reads Knows _ _ _ _ _ _ input.part four in
      let two = join_parts Reads Knows _ _ _ _ _ _ destination.part three in
      let base = join_parts Reads Knows _ _ _ _ _ _ source.part two in
      record {
        options = line_options source.there destination.there input.there output.there protocol.maybe.there ++ [];
        part = join_parts Reads Knows (line_options source.there destination.there input.there output.there protocol.maybe.there) []
            (base_option_words text_of W cube line) (module_option_words text_of W cube line) (base_literals cube line) (module_literals cube line) base modules;
        knows = knows_left protocols base.groups modules.groups
            (knows_right protocols source.part.groups two.groups
            (knows_right protocols destination.part.groups three.groups
            (knows_right protocols input.part.groups four.groups
            (knows_right protocols output.part.groups protocol.maybe.part.groups protocol.knows))));
        differ = ap all_differ (append-nil (line_options source.there destination.there input.there output.there protocol.maybe.there))
            ∙ options_differ source.there destination.there input.there output.there protocol.maybe.there;
      }

  pub asked_line_is_rule : (names : List Text) (chain : Text) (cube : Cube W) (line : Choice) (target : Text) (action : Action)
      → HasSets cube → IsRegular cube → HasStates cube → HasPrintableNames cube → Contains (choices_of cube) line → IsJump names target [] action
      → IsRuleLine Reads names (rule_words chain (part_words text_of W cube line) target) (record { chain = chain; literals = line_literals cube line; target = Target.Does action })
  asked_line_is_rule names chain cube line target action sets regular states printable there jump =
      parts_are_rule Reads names chain target action (protocols_of cube.proto) (part_words text_of W cube line) (line_literals cube line)
      (line_parts cube line sets regular states printable there) jump

  pub asked_line_is_written : (chain : Text) (cube : Cube W) (line : Choice) (target : Text)
      → HasSets cube → IsRegular cube → HasStates cube → HasPrintableNames cube → Contains (choices_of cube) line → CanStand (bare chain) → CanStand (bare target)
      → AllByRecursion CanStand (rule_words chain (part_words text_of W cube line) target)
  asked_line_is_written chain cube line target sets regular states printable there named written =
      line_written chain target (part_words text_of W cube line) named (line_parts cube line sets regular states printable there).part.written written

-- ---- the lines of a helper chain
module _ (W : ℕ) (Reads : Text → ℕ → Type 0) where
  -- an input interface of a printable pattern
  pub input_return : (pattern : Pattern) → IsPrintable pattern
      → AreParts {W = W} Reads Numbers.Every (option_words (codes "-i") (name_word pattern)) (yes (Prim_.InName pattern) ∷ [])
  input_return pattern is = record { options = codes "-i" ∷ []; part = input_part Reads (Knowing Numbers.Every) pattern is; knows = tt; differ = refl }

  -- an output interface of one
  pub output_return : (pattern : Pattern) → IsPrintable pattern
      → AreParts {W = W} Reads Numbers.Every (option_words (codes "-o") (name_word pattern)) (yes (Prim_.OutName pattern) ∷ [])
  output_return pattern is = record { options = codes "-o" ∷ []; part = output_part Reads (Knowing Numbers.Every) pattern is; knows = tt; differ = refl }

  -- a protocol from 1 to 255
  pub protocol_return : (n : ℕ) → IsNumberBut 0 n
      → AreParts {W = W} Reads Numbers.Every (option_words (codes "-p") (bare (protocol_text n))) (yes (Prim_.Proto n) ∷ [])
  protocol_return n is = record { options = codes "-p" ∷ []; part = protocol_part W Reads (Knowing Numbers.Every) n is; knows = tt; differ = refl }

  one_differs : (there : Bool) → all_differ (chosen there (codes "-p") ++ []) ≡ true
  one_differs true = refl
  one_differs false = refl

  -- a type to 254 of the messages of these protocols
  pub type_returned : (protocols : Numbers) → Sayable 0 protocols → (n : ℕ) → IsNumberBut 255 n
      → AreParts {W = W} Reads protocols (protocol_words protocols ++ type_words protocols (Numbers.Only n)) (protocol_literals protocols ++ type_literals protocols (Numbers.Only n))
  type_returned protocols says n is =
      let Knows = Knowing protocols in
      let protocol = protocols_part W Reads protocols says in
      let types = types_part Reads Knows protocols (Numbers.Only n) is in
      record {
        options = chosen protocol.maybe.there (codes "-p") ++ [];
        part = join_parts Reads Knows (chosen protocol.maybe.there (codes "-p")) [] (protocol_words protocols) (type_words protocols (Numbers.Only n))
            (protocol_literals protocols) (type_literals protocols (Numbers.Only n)) protocol.maybe.part types;
        knows = knows_left protocols protocol.maybe.part.groups types.groups protocol.knows;
        differ = one_differs protocol.maybe.there;
      }

  pub return_line_is_rule : (names : List Text) (chain : Text) (protocols : Numbers) (words : List Word) (literals : List (Lit (Prim_ W))) → AreParts Reads protocols words literals
      → IsRuleLine Reads names (return_where chain words) (record { chain = chain; literals = literals; target = Target.Does (Action.Back) })
  return_line_is_rule names chain protocols words literals parts =
      parts_are_rule Reads names chain (codes "RETURN") Action.Back protocols words literals parts (refl, refl)

  pub return_line_is_written : (chain : Text) (protocols : Numbers) (words : List Word) (literals : List (Lit (Prim_ W))) → AreParts Reads protocols words literals → CanStand (bare chain)
      → AllByRecursion CanStand (return_where chain words)
  return_line_is_written chain protocols words literals parts named =
      line_written chain (codes "RETURN") words named parts.part.written (code_is_written (codes "RETURN") refl)

  verdict_jump : (names : List Text) (accept : Bool) → IsJump names (verdict_text accept) [] (verdict_action accept)
  verdict_jump names true = (refl, refl)
  verdict_jump names false = inl (refl, refl)

  pub verdict_line_is_rule : (names : List Text) (chain : Text) (accept : Bool)
      → IsRuleLine {W = W} Reads names (rule_words chain [] (verdict_text accept)) (record { chain = chain; literals = []; target = Target.Does (verdict_action accept) })
  verdict_line_is_rule names chain accept =
      parts_are_rule Reads names chain (verdict_text accept) (verdict_action accept) Numbers.Every [] []
      (record { options = []; part = no_part Reads (Knowing Numbers.Every); knows = tt; differ = refl }) (verdict_jump names accept)

-- a verdict's word can stand in a line
pub verdict_is_written : (accept : Bool) → CanStand (bare (verdict_text accept))
verdict_is_written true = code_is_written (codes "ACCEPT") refl
verdict_is_written false = code_is_written (codes "DROP") refl

pub verdict_line_is_written : (chain : Text) (accept : Bool) → CanStand (bare chain) → AllByRecursion CanStand (rule_words chain [] (verdict_text accept))
verdict_line_is_written chain accept named = line_written chain (verdict_text accept) [] named tt (verdict_is_written accept)
