-- A drop of every packet leaves no more regions than there were.
use Rattle.std.proofs.Common.{◌≡◌, ℕ, ◌-◌, ◌^◌, ◌<◌, ◌≤◌, List, [], ◌∷◌, ◌++◌, Bool, true, false, not, ◌&&◌, Option, None, Some, refl, sym, ◌∙◌, ap, arith, inl, inr, length, length-append, bit_and, bit_xor}
use Rattle.std.specs.Prelude.{if◌then◌else◌, option_to_list}
use Rattle.std.specs.List.{AllByRecursion}
use Rattle.std.proofs.lemmas.Bool.Decides.{nat_tests}
use Rattle.std.proofs.lemmas.Nat.Bits.{bit_at-lt, bit_at-zero, bit_at_ones, same_from_bits_below}
use Rattle.interval_set.specs.declared.set.Range.{Range}
use Rattle.interval_set.specs.Numbers.{has, IsWidth}
use Rattle.interval_set.specs.Spelling.{set_minus}
use Rattle.interval_set.proofs.Spelling.{spelled}
use Rattle.name_set.specs.declared.pattern.Pattern.{Pattern}
use Rattle.name_set.specs.declared.set.NameSet.{NameSet}
use Rattle.name_set.specs.Names.{cut_of}
use Rattle.name_set.specs.Patterns.{covers}
use Rattle.primitives.specs.Holds.{has_bit}
use Rattle.box_norm.specs.declared.cube.Cube.{Cube}
use Rattle.box_norm.specs.Cubes.{each_piece, is_none, kept}
use Rattle.box_norm.specs.Normal.{whole_of}
use Rattle.box_norm.specs.Regular.{HasStates}
use Rattle.box_norm.specs.Overlaps.{and_of, cut_by_each, minus_common, minus_of, names_less, to_dport, to_dst, to_flags, to_in_name, to_out_name, to_proto, to_sport, to_src, to_state, with_in_names, with_out_names}
use Rattle.box_norm.proofs.PieceLaws.{bits_less}
use Rattle.box_norm.proofs.StayLaws.{less_states}
use Rattle.region_cut.proofs.ApartLaws.{none_dport, none_dst, none_icmp, none_proto, none_sport, none_src, none_state}

-- no name is outside the set of all
abbrev every : NameSet
every = record { base = Pattern.Prefix []; excluded = [] }

all_covered : (p : Pattern) → covers (Pattern.Prefix []) p ≡ true
all_covered (Pattern.Exact text) = refl
all_covered (Pattern.Prefix text) = refl

no_cuts : (o : Option NameSet) → cut_by_each o [] ≡ []
no_cuts None = refl
no_cuts (Some s) = refl

none_outside : (c : Bool) (o : Option NameSet) → c ≡ true → option_to_list (if c then None else o) ≡ []
none_outside true o h = refl
none_outside false o h = absurd (grind (arith, h))

no_less : (a : NameSet) → names_less a every ≡ []
no_less a = ap (λ l. l ++ cut_by_each (cut_of a (Pattern.Prefix [])) []) (none_outside (covers (Pattern.Prefix []) a.base) _ (all_covered a.base)) ∙ no_cuts (cut_of a (Pattern.Prefix []))

-- no number of a width is outside all of them
no_numbers_less : (w : ℕ) (a : List Range) → IsWidth w → set_minus w a (record { lo = 0; hi = 2 ^ w - 1 } ∷ []) ≡ []
unfolding set_minus
no_numbers_less w a h = sym (spelled w [] (λ n. has a n && not (has (record { lo = 0; hi = 2 ^ w - 1 } ∷ []) n)) (h, tt) (λ k l. grind (arith, nat_tests, l)))

-- no state is outside the five
all_states : (i : ℕ) → i < 5 → has_bit 31 i ≡ true
all_states i h = let e = bit_at_ones 5 i h in grind (arith, nat_tests, e)

no_states_less : (s : ℕ) → s < 32 → bit_xor s (bit_and s 31) ≡ 0
no_states_less s h = same_from_bits_below 5 (bit_xor s (bit_and s 31)) 0 (less_states s 31 h) (omega arith) (λ i l.
    let e = bits_less s 31 i in
    let f = all_states i l in
    let g = bit_at-lt (bit_xor s (bit_and s 31)) i in
    let z = bit_at-zero i in
    grind (arith, nat_tests, e, f, g, z))

kept_by : {W : ℕ} (b : Bool) (c : Cube W) → b ≡ true → length (if b then [] else c ∷ []) ≡ 0
kept_by true c h = refl
kept_by false c h = absurd (grind (arith, h))

kept_none : {W : ℕ} (c : Cube W) → is_none c ≡ true → length (kept c) ≡ 0
kept_none c h = kept_by (is_none c) c h

one_by : {W : ℕ} (b : Bool) (c : Cube W) → length (if b then [] else c ∷ []) ≤ 1
one_by true c = omega arith
one_by false c = omega arith

kept_one : {W : ℕ} (c : Cube W) → length (kept c) ≤ 1
kept_one c = one_by (is_none c) c

-- at most the piece of the flags
at_most : {X : Type 0} (a b c d e f g h i j : List X) → length a ≡ 0 → length b ≡ 0 → length c ≡ 0 → length d ≡ 0 → length e ≡ 0 → length f ≡ 0 → length g ≡ 0 → length h ≤ 1 → length i ≡ 0 →
    length j ≡ 0 → length (((((((((a ++ b) ++ c) ++ d) ++ e) ++ f) ++ g) ++ h) ++ i) ++ j) ≤ 1
at_most a b c d e f g h i j la lb lc ld le lf lg lh li lj =
    omega (
      arith,
      length-append ((((((((a ++ b) ++ c) ++ d) ++ e) ++ f) ++ g) ++ h) ++ i) j,
      length-append (((((((a ++ b) ++ c) ++ d) ++ e) ++ f) ++ g) ++ h) i,
      length-append ((((((a ++ b) ++ c) ++ d) ++ e) ++ f) ++ g) h,
      length-append (((((a ++ b) ++ c) ++ d) ++ e) ++ f) g,
      length-append ((((a ++ b) ++ c) ++ d) ++ e) f,
      length-append (((a ++ b) ++ c) ++ d) e,
      length-append ((a ++ b) ++ c) d,
      length-append (a ++ b) c,
      length-append a b,
      la,
      lb,
      lc,
      ld,
      le,
      lf,
      lg,
      lh,
      li,
      lj,
    )

module _ {W : ℕ} (w : IsWidth W) (a : Cube W) (s : HasStates a) where
  abbrev b : Cube W
  b = whole_of W

  pieces_one : (o : Option (Cube W)) → length (minus_common a b o) ≤ 1
  pieces_one None = omega arith
  pieces_one (Some m) =
      at_most
      (with_in_names a (names_less a.in_name b.in_name))
      (with_out_names (to_in_name m a) (names_less a.out_name b.out_name))
      (kept (record (to_out_name m a) { src = set_minus W a.src b.src }))
      (kept (record (to_src m a) { dst = set_minus W a.dst b.dst }))
      (kept (record (to_dst m a) { proto = set_minus 8 a.proto b.proto }))
      (kept (record (to_proto m a) { sport = set_minus 16 a.sport b.sport }))
      (kept (record (to_sport m a) { dport = set_minus 16 a.dport b.dport }))
      (kept (record (to_dport m a) { flags = bit_xor a.flags (bit_and a.flags b.flags) }))
      (kept (record (to_flags m a) { state = bit_xor a.state (bit_and a.state b.state) }))
      (kept (record (to_state m a) { icmp = set_minus 8 a.icmp b.icmp }))
      (ap (λ l. length (with_in_names a l)) (no_less a.in_name))
      (ap (λ l. length (with_out_names (to_in_name m a) l)) (no_less a.out_name))
      (kept_none (record (to_out_name m a) { src = set_minus W a.src b.src }) (none_src (record (to_out_name m a) { src = set_minus W a.src b.src }) (no_numbers_less W a.src w)))
      (kept_none (record (to_src m a) { dst = set_minus W a.dst b.dst }) (none_dst (record (to_src m a) { dst = set_minus W a.dst b.dst }) (no_numbers_less W a.dst w)))
      (kept_none (record (to_dst m a) { proto = set_minus 8 a.proto b.proto }) (none_proto (record (to_dst m a) { proto = set_minus 8 a.proto b.proto }) (no_numbers_less 8 a.proto (inl refl))))
      (kept_none (record (to_proto m a) { sport = set_minus 16 a.sport b.sport }) (none_sport (record (to_proto m a) { sport = set_minus 16 a.sport b.sport }) (no_numbers_less 16 a.sport (inr (inl refl)))))
      (kept_none (record (to_sport m a) { dport = set_minus 16 a.dport b.dport }) (none_dport (record (to_sport m a) { dport = set_minus 16 a.dport b.dport }) (no_numbers_less 16 a.dport (inr (inl refl)))))
      (kept_one (record (to_dport m a) { flags = bit_xor a.flags (bit_and a.flags b.flags) }))
      (kept_none (record (to_flags m a) { state = bit_xor a.state (bit_and a.state b.state) }) (none_state (record (to_flags m a) { state = bit_xor a.state (bit_and a.state b.state) }) (no_states_less a.state s)))
      (kept_none (record (to_state m a) { icmp = set_minus 8 a.icmp b.icmp }) (none_icmp (record (to_state m a) { icmp = set_minus 8 a.icmp b.icmp }) (no_numbers_less 8 a.icmp (inl refl))))

-- as many regions at most
pub without_whole : (W : ℕ) → IsWidth W → (regions : List (Cube W)) → AllByRecursion HasStates regions → length (each_piece (λ c. minus_of c (whole_of W)) regions) ≤ length regions
without_whole W w [] h = omega arith
without_whole W w (c ∷ cs) h =
    let one = pieces_one w c h.0 (and_of c (whole_of W)) in
    let rest = without_whole W w cs h.1 in
    omega (arith, length-append (minus_of c (whole_of W)) (each_piece (λ d. minus_of d (whole_of W)) cs), one, rest)
