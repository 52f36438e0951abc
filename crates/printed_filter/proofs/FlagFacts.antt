-- What the lines of a cube say of the flags.
use Rattle.std.proofs.Common.{◌≡◌, ℕ, zero, suc, ◌+◌, ◌*◌, ◌-◌, ◌^◌, ◌<◌, ◌≤◌, ◌==◌, ◌⊎◌, inl, inr, List, [], ◌∷◌, ◌++◌, Bool, true, false, ◌&&◌, ◌||◌, nat_lt, bit_and, map, refl, sym, ◌∙◌, ap, arith}
use Rattle.std.specs.Prelude.{if◌then◌else◌}
use Rattle.std.specs.Int.Bits.{and_zero_r}
use Rattle.std.specs.List.{AllByRecursion, list_any}
use Rattle.std.proofs.lemmas.Bool.Decides.{nat_tests}
use Rattle.std.proofs.lemmas.Nat.Bits.{bit_at_ones}
use Rattle.interval_set.specs.declared.set.Range.{Range}
use Rattle.interval_set.specs.Numbers.{has}
use Rattle.primitives.specs.declared.prim.Packet.{Packet}
use Rattle.primitives.specs.declared.prim.Prim_.{Prim_}
use Rattle.primitives.specs.Holds.{has_bit, holds_of}
use Rattle.fw_rule.specs.declared.rule.Lit.{Lit}
use Rattle.fw_rule.specs.Walk.{doubt_in}
use Rattle.box_norm.specs.Pieces.{single}
use Rattle.dump_print.specs.declared.flags.FlagCube.{FlagCube}
use Rattle.dump_print.specs.declared.numbers.Numbers.{Numbers}
use Rattle.dump_print.specs.FlagCover.{CoverFlags, match_count, matches}
use Rattle.dump_print.specs.Flags.{all_below, beside, cubes_of, flag_cubes, same_truth}
use Rattle.dump_print.specs.Numbers.{protocols_of}
use Rattle.printed_filter.specs.Literals.{flags_literals, yes}
use Rattle.printed_filter.proofs.Facts.{facts, one_fact}
use Rattle.printed_filter.proofs.PortFacts.{nothing, own_part}
use Rattle.basics.proofs.Lists.{each_append}

-- no flag of comp is outside of mask: what matters here is an empty mask
abbrev Fits : FlagCube → Type 0
Fits cube = cube.comp ≤ cube.mask

all_beside : (m c : ℕ) (cubes : List FlagCube) → c ≤ m → AllByRecursion Fits cubes → AllByRecursion Fits (map (beside m c) cubes)
all_beside m c [] l h = tt
all_beside m c (cube ∷ cubes) l h = (omega (arith, h.0), all_beside m c cubes l h.1)

all_fit : (count : ℕ) (has : ℕ → Bool) → AllByRecursion Fits (flag_cubes count has)
unfolding flag_cubes
all_fit zero has = elim (has 0) as (λ b. AllByRecursion Fits (if b then record { mask = 0; comp = 0 } ∷ [] else [])) [
  | true ↦ (omega arith, tt)
  | false ↦ tt
]
all_fit (suc count) has =
    let even = all_fit count (λ n. has (2 * n)) in
    let odd = all_fit count (λ n. has (2 * n + 1)) in
    elim (all_below (2 ^ count) (λ n. same_truth (has (2 * n)) (has (2 * n + 1)))) as (λ b. AllByRecursion Fits
    (if b then map (beside 0 0) (flag_cubes count (λ n. has (2 * n)))
    else map (beside 1 0) (flag_cubes count (λ n. has (2 * n))) ++ map (beside 1 1) (flag_cubes count (λ n. has (2 * n + 1))))) [
      | true ↦ all_beside 0 0 (flag_cubes count (λ n. has (2 * n))) (omega arith) even
      | false ↦ each_append Fits (map (beside 1 0) (flag_cubes count (λ n. has (2 * n)))) (map (beside 1 1) (flag_cubes count (λ n. has (2 * n + 1))))
          (all_beside 1 0 (flag_cubes count (λ n. has (2 * n))) (omega arith) even) (all_beside 1 1 (flag_cubes count (λ n. has (2 * n + 1))) (omega arith) odd)
    ]

both_true : (a b : Bool) → a ≡ true → b ≡ true → same_truth a b ≡ true
both_true a b e f = λ i. same_truth (e i) (f i)

all_true : (n : ℕ) (test : ℕ → Bool) → ((k : ℕ) → k < n → test k ≡ true) → all_below n test ≡ true
all_true zero test h = refl
all_true (suc n) test h = λ i. all_true n test (λ k l. h k (omega arith)) i && h n (omega arith) i

-- the cubes of all numbers are the one of an empty mask
full_cubes : (count : ℕ) (has : ℕ → Bool) → ((n : ℕ) → n < 2 ^ count → has n ≡ true) → flag_cubes count has ≡ record { mask = 0; comp = 0 } ∷ []
unfolding flag_cubes
full_cubes zero has h = ap (λ b. if b then record { mask = 0; comp = 0 } ∷ [] else []) (h 0 (omega arith))
full_cubes (suc count) has h =
    ap (λ b. if b then map (beside 0 0) (flag_cubes count (λ n. has (2 * n)))
    else map (beside 1 0) (flag_cubes count (λ n. has (2 * n))) ++ map (beside 1 1) (flag_cubes count (λ n. has (2 * n + 1))))
    (all_true (2 ^ count) (λ n. same_truth (has (2 * n)) (has (2 * n + 1)))
    (λ n l. both_true (has (2 * n)) (has (2 * n + 1)) (h (2 * n) (omega arith)) (h (2 * n + 1) (omega arith))))
    ∙ ap (map (beside 0 0)) (full_cubes count (λ n. has (2 * n)) (λ n l. h (2 * n) (omega arith)))

has_all : (x : ℕ) → x < 64 → has_bit (2 ^ 64 - 1) x ≡ true
has_all x l = ap (λ b. b == 1) (bit_at_ones 64 x l)

any_counted : (cubes : List FlagCube) (n : ℕ) → list_any (matches n) cubes ≡ nat_lt 0 (match_count cubes n)
any_counted [] n = refl
any_counted (cube ∷ cubes) n = more (matches n cube) (list_any (matches n) cubes) (match_count cubes n) (any_counted cubes n)
  where
    more : (b c : Bool) (k : ℕ) → c ≡ nat_lt 0 k → (b || c) ≡ nat_lt 0 ((if b then 1 else 0) + k)
    more true c k e = grind (arith, nat_tests)
    more false c k e = grind (arith, nat_tests, e)

some_bit : (b : Bool) → nat_lt 0 (if b then 1 else 0) ≡ b
some_bit true = refl
some_bit false = refl

tcp_form : protocols_of (single 6) ≡ Numbers.Only 6
tcp_form = refl

tcp_alone : (x : ℕ) → has (single 6) x ≡ true → (x == 6) ≡ true
tcp_alone x e = grind (arith, nat_tests, e)

module _ (W : ℕ) (p : Packet) where
  abbrev told : List (Lit (Prim_ W)) → Bool
  told = facts (holds_of {W = W}) p

  -- what a line says of the flags
  abbrev pub flags_fact : Numbers → FlagCube → Bool
  flags_fact form cube = told (own_part form (flags_literals cube))

  module _ (tcp : (p.proto == 6) ≡ true) where
    told_by : (cube : FlagCube) (b : Bool) → (cube.mask == 0) ≡ b → Fits cube →
        told (if b then [] else yes (Prim_.Flags cube.mask cube.comp) ∷ []) ≡ matches p.flags cube
    told_by cube true e f =
        let none : cube.mask ≡ 0 = grind (arith, nat_tests, e) in
        let empty : cube.comp ≡ 0 = omega arith in
        sym ((λ i. bit_and p.flags (none i) == empty i) ∙ ap (λ k. k == 0) (and_zero_r p.flags))
    told_by cube false e f = one_fact (holds_of {W = W}) p (Prim_.Flags cube.mask cube.comp) ∙ ap (λ b. b && matches p.flags cube) tcp

    told_each : (cubes : List FlagCube) → AllByRecursion Fits cubes → list_any (flags_fact (Numbers.Only 6)) cubes ≡ list_any (matches p.flags) cubes
    told_each [] h = refl
    told_each (cube ∷ cubes) h = λ i. told_by cube (cube.mask == 0) refl h.0 i || told_each cubes h.1 i

  -- the lines together say the set of flags
  pub flags_meet : (flags : ℕ) (protos : List Range) → (flags ≡ 2 ^ 64 - 1) ⊎ (protos ≡ single 6) → CoverFlags flags → has protos p.proto ≡ true →
      p.flags < 64 → list_any (flags_fact (protocols_of protos)) (cubes_of flags) ≡ has_bit flags p.flags
  flags_meet flags protos (inl all) cover of small =
      ap (λ z. list_any (flags_fact (protocols_of protos)) (cubes_of z)) all
      ∙ ap (list_any (flags_fact (protocols_of protos))) (full_cubes 6 (has_bit (2 ^ 64 - 1)) (λ n l. has_all n l))
      ∙ ap (λ b. b || false) (nothing W p (protocols_of protos)) ∙ sym (ap (λ z. has_bit z p.flags) all ∙ has_all p.flags small)
  flags_meet flags protos (inr tcp) cover of small =
      ap (λ z. list_any (flags_fact z) (cubes_of flags)) (ap protocols_of tcp ∙ tcp_form)
      ∙ told_each (tcp_alone p.proto (sym (ap (λ (z : List Range). has z p.proto) tcp) ∙ of)) (cubes_of flags) (all_fit 6 (has_bit flags))
      ∙ any_counted (cubes_of flags) p.flags ∙ ap (λ n. nat_lt 0 n) (cover p.flags small) ∙ some_bit (has_bit flags p.flags)

module _ (W : ℕ) where
  known_by : (cube : FlagCube) (b : Bool) → doubt_in (if b then [] else yes {W = W} (Prim_.Flags cube.mask cube.comp) ∷ []) ≡ false
  known_by cube true = refl
  known_by cube false = refl

  pub flags_known : (cube : FlagCube) → doubt_in (flags_literals {W = W} cube) ≡ false
  flags_known cube = known_by cube (cube.mask == 0)
