-- The parts of a line that name ports, flags and states.
use Rattle.std.proofs.Common.{◌≡◌, ◌++◌, ◌∷◌, ◌^◌, ◌<◌, ◌≤◌, ◌==◌, ◌⊎◌, [], ℕ, List, Bool, true, false, Some, inl, inr, length, refl, ap, arith, codes, decimal, if◌then◌else◌, lit<, lit≤}
use Rattle.std.specs.List.{AllByRecursion, flat_map, slice_split}
use Rattle.std.proofs.lemmas.Bool.{eqb-true}
use Rattle.interval_set.specs.declared.set.Range.{Range}
use Rattle.match_expr.specs.declared.expr.Expr.{Expr}
use Rattle.match_expr.specs.declared.expr.Expr.TheVariants.{Prim}
use Rattle.primitives.specs.declared.prim.Prim_.{Prim_}
use Rattle.primitives.specs.Ports.{HasPorts}
use Rattle.fw_rule.specs.declared.rule.Lit.{Lit}
use Rattle.primitives.specs.Tables.{name_list, state_names}
use Rattle.primitives.specs.Words.{flags_text}
use Rattle.opt_table.specs.Options.{destination_ports, source_ports}
use Rattle.dump_grammar.specs.Arguments.{ArePortRanges, IsPortList, IsPortRange, LineProtocol, Says}
use Rattle.dump_grammar.specs.Groups.{Group, IsOptionName, arity_of}
use Rattle.dump_grammar.specs.Lines.{Text, bare}
use Rattle.dump_grammar.proofs.SaidBy.{IsPortModule, connection_state, destination_port, destination_port_list, source_port, source_port_list, tcp_flags}
use Rattle.dump_print.specs.declared.flags.FlagCube.{FlagCube}
use Rattle.dump_print.specs.declared.numbers.Numbers.{Numbers}
use Rattle.dump_print.specs.Parts.{Choice, flags_words, listed_words, module_words, option_words, own_module_words, own_words, single_words, state_words}
use Rattle.dump_print.specs.Ports.{Ports, port_list, port_text}
use Rattle.dump_print.specs.Numbers.{number_of, protocol_text}
use Rattle.printed_filter.specs.Literals.{flags_literals, listed_literals, own_literals, own_module_literals, single_literals, state_literals, yes}
use Rattle.printed_text.proofs.WordLemmas.{CanStand, IsClean, clean_decimal, clean_is_written, code_is_written, some_decimal, some_joined}
use Rattle.printed_text.proofs.WordListLemmas.{flags_spelled, flags_written, states_listed, states_written}
use Rattle.printed_text.proofs.PartLemmas.{arity_is, IsInner, IsPart, join_inner, module_part, no_inner, no_part, option_part}
use Rattle.printed_text.proofs.ProtocolParts.{Knowing, protocol_spells}
use Rattle.basics.proofs.Lists.{each_append}

-- ---- the words of ports
-- ports are small numbers
abbrev IsSmall : Range → Type 0
IsSmall r = (r.lo < 2 ^ 16) × (r.hi < 2 ^ 16)

small_range : (text : Text) (r : Range) → IsPortRange text r → IsSmall r
small_range text r (high, inl is) = (omega (arith, is.1), high)
small_range text r (high, inr is) = (omega (arith, is.1), high)

small_ranges : (texts : List Text) (rs : List Range) → ArePortRanges texts rs → AllByRecursion IsSmall rs
small_ranges [] [] are = tt
small_ranges (text ∷ texts) (r ∷ rs) are = (small_range text r are.0, small_ranges texts rs are.1)
small_ranges [] (r ∷ rs) are = absurd are
small_ranges (text ∷ texts) [] are = absurd are

wide : (n : ℕ) → n < 2 ^ 16 → n < 2 ^ 64
wide n l = omega arith

clean_port_by : (b : Bool) (r : Range) → IsSmall r → IsClean (if b then decimal r.lo else decimal r.lo ++ 58 ∷ decimal r.hi)
clean_port_by true r is = clean_decimal r.lo (wide r.lo is.0)
clean_port_by false r is = each_append (λ b. 34 < b) (decimal r.lo) (58 ∷ decimal r.hi) (clean_decimal r.lo (wide r.lo is.0)) (lit< tt, clean_decimal r.hi (wide r.hi is.1))

clean_port : (r : Range) → IsSmall r → IsClean (port_text r)
clean_port r is = clean_port_by (r.lo == r.hi) r is

some_port_by : (b : Bool) (r : Range) → IsSmall r → 0 < length (if b then decimal r.lo else decimal r.lo ++ 58 ∷ decimal r.hi)
some_port_by true r is = some_decimal r.lo (wide r.lo is.0)
some_port_by false r is = some_joined (decimal r.lo) (58 ∷ decimal r.hi) (some_decimal r.lo (wide r.lo is.0))

some_port : (r : Range) → IsSmall r → 0 < length (port_text r)
some_port r is = some_port_by (r.lo == r.hi) r is

clean_more : (rs : List Range) → AllByRecursion IsSmall rs → IsClean (flat_map (λ r. codes "," ++ port_text r) rs)
clean_more [] are = tt
clean_more (r ∷ rs) are = (lit< tt, each_append (λ b. 34 < b) (port_text r) (flat_map (λ r. codes "," ++ port_text r) rs) (clean_port r are.0) (clean_more rs are.1))

port_written : (r : Range) → IsPortRange (port_text r) r → CanStand (bare (port_text r))
port_written r is = let small = small_range (port_text r) r is in clean_is_written (port_text r) (some_port r small) (clean_port r small)

ports_written : (rs : List Range) → IsPortList (port_list rs) rs → CanStand (bare (port_list rs))
ports_written [] is = absurd is.0
ports_written (r ∷ rs) is =
    let small = small_ranges (slice_split (λ b. b == 44) (port_list (r ∷ rs))) (r ∷ rs) is.0 in
    clean_is_written (port_list (r ∷ rs)) (some_joined (port_text r) (flat_map (λ r. codes "," ++ port_text r) rs) (some_port r small.0))
    (each_append (λ b. 34 < b) (port_text r) (flat_map (λ r. codes "," ++ port_text r) rs) (clean_port r small.0) (clean_more rs small.1))

-- ---- which ports, flags and states a line says
-- the line says one protocol, and that has ports
abbrev pub HasOnePorts : Numbers → Type 0
HasOnePorts Numbers.Every = ⊥
HasOnePorts (Numbers.Only n) = HasPorts n
HasOnePorts (Numbers.AllBut n) = ⊥
HasOnePorts Numbers.Others = ⊥

-- the ports are read as what they are
abbrev pub IsReadable : Numbers → Ports → Type 0
IsReadable protocols Ports.Every = Unit {0}
IsReadable protocols (Ports.Single r) = IsPortRange (port_text r) r
IsReadable protocols (Ports.Listed rs) = IsPortList (port_list rs) rs × HasOnePorts protocols

-- numbers of six flags, and a mask only where the protocol is tcp
abbrev pub IsFlagCube : Numbers → FlagCube → Type 0
IsFlagCube protocols cube = (cube.mask < 64) × (cube.comp < 64) × (((cube.mask == 0) ≡ true) ⊎ (protocols ≡ Numbers.Only 6))

ports_small : (n : ℕ) → HasPorts n → n ≤ 255
ports_small n (inl e) = omega (arith, e)
ports_small n (inr (inl e)) = omega (arith, e)
ports_small n (inr (inr (inl e))) = omega (arith, e)
ports_small n (inr (inr (inr (inl e)))) = omega (arith, e)
ports_small n (inr (inr (inr (inr e)))) = omega (arith, e)

known_protocol : (all : List Group) (protocols : Numbers) → HasOnePorts protocols → Knowing protocols all → LineProtocol all (number_of protocols)
known_protocol all Numbers.Every is knows = absurd is
known_protocol all (Numbers.Only n) is knows = (protocol_text n, (knows, protocol_spells n (ports_small n is), is))
known_protocol all (Numbers.AllBut n) is knows = absurd is
known_protocol all Numbers.Others is knows = absurd is

no_mask : (n : ℕ) (cube : FlagCube) → n ≡ 17 → IsFlagCube (Numbers.Only n) cube → (cube.mask == 0) ≡ true
no_mask n cube e (mask, comp, inl is) = is
no_mask n cube e (mask, comp, inr only) = let same : n ≡ 6 = ap number_of only in absurd (omega (arith, same, e))

module _ {W : ℕ} (Reads : Text → ℕ → Type 0) where
  -- ---- the options of tcp and udp
  module _ (Knows : List Group → Type 0) where
    single_part : (name option : Text) (expr : List Range → Expr (Prim_ W)) → arity_of name option ≡ Some 1 → IsOptionName option
        → ((all : List Group) (text : Text) (r : Range) → IsPortRange text r → Says Reads all name option (text ∷ []) false (expr (r ∷ [])))
        → CanStand (bare option) → (protocols : Numbers) (ports : Ports) → IsReadable protocols ports
        → IsInner Reads Knows name (single_words option ports) (single_literals expr ports)
    single_part name option expr arity is_name says named protocols Ports.Every is = no_inner Reads Knows name
    single_part name option expr arity is_name says named protocols (Ports.Single r) is =
        option_part Reads Knows false name option (bare (port_text r) ∷ []) (expr (r ∷ [])) arity is_name (λ all knows. says all (port_text r) r is) named (port_written r is, tt)
    single_part name option expr arity is_name says named protocols (Ports.Listed rs) is = no_inner Reads Knows name

    source_port_part : (name : Text) (n : ℕ) → IsPortModule name n → arity_of name (codes "--sport") ≡ Some 1 → (protocols : Numbers) (ports : Ports) → IsReadable protocols ports
        → IsInner {W = W} Reads Knows name (single_words (codes "--sport") ports) (single_literals (source_ports n) ports)
    source_port_part name n of arity = single_part name (codes "--sport") (source_ports n) arity (refl, lit≤ tt)
        (λ all text r is. source_port Reads all false n text r of refl refl is refl) (code_is_written (codes "--sport") refl)

    destination_port_part : (name : Text) (n : ℕ) → IsPortModule name n → arity_of name (codes "--dport") ≡ Some 1 → (protocols : Numbers) (ports : Ports) → IsReadable protocols ports
        → IsInner {W = W} Reads Knows name (single_words (codes "--dport") ports) (single_literals (destination_ports n) ports)
    destination_port_part name n of arity = single_part name (codes "--dport") (destination_ports n) arity (refl, lit≤ tt)
        (λ all text r is. destination_port Reads all false n text r of refl refl is refl) (code_is_written (codes "--dport") refl)

    flags_part_by : (cube : FlagCube) → cube.mask < 64 → cube.comp < 64 → (b : Bool)
        → IsInner {W = W} Reads Knows (codes "tcp") (if b then [] else bare (codes "--tcp-flags") ∷ bare (flags_text cube.mask) ∷ bare (flags_text cube.comp) ∷ [])
        (if b then [] else yes (Prim_.Flags cube.mask cube.comp) ∷ [])
    flags_part_by cube mask comp true = no_inner Reads Knows (codes "tcp")
    flags_part_by cube mask comp false =
        option_part Reads Knows false (codes "tcp") (codes "--tcp-flags") (bare (flags_text cube.mask) ∷ bare (flags_text cube.comp) ∷ []) (Prim (Prim_.Flags cube.mask cube.comp))
        (arity_is (codes "tcp") (codes "--tcp-flags") 2 refl) (refl, lit≤ tt)
        (λ all knows. tcp_flags Reads all false (flags_text cube.mask) (flags_text cube.comp) cube.mask cube.comp refl refl refl (flags_spelled cube.mask mask) (flags_spelled cube.comp comp) refl)
        (code_is_written (codes "--tcp-flags") refl) (flags_written cube.mask mask, (flags_written cube.comp comp, tt))

    flags_part : (cube : FlagCube) → cube.mask < 64 → cube.comp < 64 → IsInner {W = W} Reads Knows (codes "tcp") (flags_words cube) (flags_literals cube)
    flags_part cube mask comp = flags_part_by cube mask comp (cube.mask == 0)

    no_flags_by : (name : Text) (cube : FlagCube) (b : Bool) → b ≡ true
        → IsInner {W = W} Reads Knows name (if b then [] else bare (codes "--tcp-flags") ∷ bare (flags_text cube.mask) ∷ bare (flags_text cube.comp) ∷ [])
        (if b then [] else yes (Prim_.Flags cube.mask cube.comp) ∷ [])
    no_flags_by name cube true e = no_inner Reads Knows name
    no_flags_by name cube false e = let wrong : false ≡ true = e in cc

    own_part_of : (name : Text) (n : ℕ) (protocols : Numbers) (line : Choice) → IsPortModule name n → arity_of name (codes "--sport") ≡ Some 1 → arity_of name (codes "--dport") ≡ Some 1
        → IsReadable protocols line.sports → IsReadable protocols line.dports → IsInner {W = W} Reads Knows name (flags_words line.flags) (flags_literals line.flags)
        → IsInner {W = W} Reads Knows name (own_words line.sports line.dports line.flags) (own_literals n line)
    own_part_of name n protocols line of source destination sports dports flags =
        join_inner Reads Knows name (single_words (codes "--sport") line.sports) (single_words (codes "--dport") line.dports ++ flags_words line.flags)
        (single_literals (source_ports n) line.sports) (single_literals (destination_ports n) line.dports ++ flags_literals line.flags)
        (source_port_part name n of source protocols line.sports sports)
        (join_inner Reads Knows name (single_words (codes "--dport") line.dports) (flags_words line.flags) (single_literals (destination_ports n) line.dports) (flags_literals line.flags)
        (destination_port_part name n of destination protocols line.dports dports) flags)

    tcp_part : (n : ℕ) (line : Choice) → IsReadable (Numbers.Only n) line.sports → IsReadable (Numbers.Only n) line.dports → IsFlagCube (Numbers.Only n) line.flags → n ≡ 6
        → IsPart {W = W} Reads Knows [] (module_words (codes "tcp") (own_words line.sports line.dports line.flags)) (own_literals n line)
    tcp_part n line sports dports flags e =
        module_part Reads Knows (codes "tcp") (own_words line.sports line.dports line.flags) (own_literals n line) refl (code_is_written (codes "tcp") refl)
        (own_part_of (codes "tcp") n (Numbers.Only n) line (inl (refl, e)) (arity_is (codes "tcp") (codes "--sport") 1 refl) (arity_is (codes "tcp") (codes "--dport") 1 refl) sports dports (flags_part line.flags flags.0 flags.1))

    udp_part : (n : ℕ) (line : Choice) → IsReadable (Numbers.Only n) line.sports → IsReadable (Numbers.Only n) line.dports → IsFlagCube (Numbers.Only n) line.flags → n ≡ 17
        → IsPart {W = W} Reads Knows [] (module_words (codes "udp") (own_words line.sports line.dports line.flags)) (own_literals n line)
    udp_part n line sports dports flags e =
        module_part Reads Knows (codes "udp") (own_words line.sports line.dports line.flags) (own_literals n line) refl (code_is_written (codes "udp") refl)
        (own_part_of (codes "udp") n (Numbers.Only n) line (inr (refl, e)) (arity_is (codes "udp") (codes "--sport") 1 refl) (arity_is (codes "udp") (codes "--dport") 1 refl) sports dports
        (no_flags_by (codes "udp") line.flags (line.flags.mask == 0) (no_mask n line.flags e flags)))

    own_by : (n : ℕ) (line : Choice) → IsReadable (Numbers.Only n) line.sports → IsReadable (Numbers.Only n) line.dports → IsFlagCube (Numbers.Only n) line.flags
        → (tcp udp : Bool) → (n == 6) ≡ tcp → (n == 17) ≡ udp
        → IsPart {W = W} Reads Knows []
        (if tcp then module_words (codes "tcp") (own_words line.sports line.dports line.flags)
        else if udp then module_words (codes "udp") (own_words line.sports line.dports line.flags)
        else [])
        (if tcp then own_literals n line else if udp then own_literals n line else [])
    own_by n line sports dports flags true udp e f = tcp_part n line sports dports flags (eqb-true n 6 e)
    own_by n line sports dports flags false true e f = udp_part n line sports dports flags (eqb-true n 17 f)
    own_by n line sports dports flags false false e f = no_part Reads Knows

    pub own_part : (protocols : Numbers) (line : Choice) → IsReadable protocols line.sports → IsReadable protocols line.dports → IsFlagCube protocols line.flags
        → IsPart {W = W} Reads Knows [] (own_module_words protocols (own_words line.sports line.dports line.flags)) (own_module_literals protocols line)
    own_part Numbers.Every line sports dports flags = no_part Reads Knows
    own_part (Numbers.Only n) line sports dports flags = own_by n line sports dports flags (n == 6) (n == 17) refl refl
    own_part (Numbers.AllBut n) line sports dports flags = no_part Reads Knows
    own_part Numbers.Others line sports dports flags = no_part Reads Knows

  -- ---- lists of multiport
  listed_part : (option : Text) (expr : ℕ → List Range → Expr (Prim_ W)) → arity_of (codes "multiport") option ≡ Some 1 → IsOptionName option
      → ((all : List Group) (n : ℕ) (text : Text) (rs : List Range) → LineProtocol all n → IsPortList text rs → Says Reads all (codes "multiport") option (text ∷ []) false (expr n rs))
      → CanStand (bare option) → (protocols : Numbers) (ports : Ports) → IsReadable protocols ports
      → IsPart Reads (Knowing protocols) [] (listed_words option ports) (listed_literals (expr (number_of protocols)) ports)
  listed_part option expr arity name says named protocols Ports.Every is = no_part Reads (Knowing protocols)
  listed_part option expr arity name says named protocols (Ports.Single r) is = no_part Reads (Knowing protocols)
  listed_part option expr arity name says named protocols (Ports.Listed rs) is =
      module_part Reads (Knowing protocols) (codes "multiport") (option_words option (bare (port_list rs))) (Lit.Known false (expr (number_of protocols) rs) ∷ []) refl
      (code_is_written (codes "multiport") refl)
      (option_part Reads (Knowing protocols) false (codes "multiport") option (bare (port_list rs) ∷ []) (expr (number_of protocols) rs) arity name
      (λ all knows. says all (number_of protocols) (port_list rs) rs (known_protocol all protocols is.1 knows) is.0) named (ports_written rs is.0, tt))

  pub source_list_part : (protocols : Numbers) (ports : Ports) → IsReadable protocols ports
      → IsPart {W = W} Reads (Knowing protocols) [] (listed_words (codes "--sports") ports) (listed_literals (source_ports (number_of protocols)) ports)
  source_list_part = listed_part (codes "--sports") source_ports (arity_is (codes "multiport") (codes "--sports") 1 refl) (refl, lit≤ tt)
      (λ all n text rs line is. source_port_list Reads all false n text rs refl refl refl line is refl) (code_is_written (codes "--sports") refl)

  pub destination_list_part : (protocols : Numbers) (ports : Ports) → IsReadable protocols ports
      → IsPart {W = W} Reads (Knowing protocols) [] (listed_words (codes "--dports") ports) (listed_literals (destination_ports (number_of protocols)) ports)
  destination_list_part = listed_part (codes "--dports") destination_ports (arity_is (codes "multiport") (codes "--dports") 1 refl) (refl, lit≤ tt)
      (λ all n text rs line is. destination_port_list Reads all false n text rs refl refl refl line is refl) (code_is_written (codes "--dports") refl)

  -- ---- states
  state_part_by : (Knows : List Group → Type 0) (states : ℕ) → 1 ≤ states → states < 32 → (b : Bool)
      → IsPart {W = W} Reads Knows [] (if b then [] else module_words (codes "conntrack") (option_words (codes "--ctstate") (bare (name_list state_names states))))
      (if b then [] else yes (Prim_.State states) ∷ [])
  state_part_by Knows states some small true = no_part Reads Knows
  state_part_by Knows states some small false =
      module_part Reads Knows (codes "conntrack") (option_words (codes "--ctstate") (bare (name_list state_names states))) (yes (Prim_.State states) ∷ []) refl (code_is_written (codes "conntrack") refl)
      (option_part Reads Knows false (codes "conntrack") (codes "--ctstate") (bare (name_list state_names states) ∷ []) (Prim (Prim_.State states)) (arity_is (codes "conntrack") (codes "--ctstate") 1 refl) (refl, lit≤ tt)
      (λ all knows. connection_state Reads all false (name_list state_names states) states refl refl refl (states_listed states some small) refl) (code_is_written (codes "--ctstate") refl)
      (states_written states some small, tt))

  pub state_part : (Knows : List Group → Type 0) (states : ℕ) → 1 ≤ states → states < 32 → IsPart {W = W} Reads Knows [] (state_words states) (state_literals states)
  state_part Knows states some small = state_part_by Knows states some small (states == 31)
