-- The least values of a cube's dimensions, and where there are none.
use Rattle.std.proofs.Common.{◌≡◌, ℕ, ◌+◌, ◌-◌, ◌*◌, ◌^◌, ◌<◌, ◌≤◌, List, ◌∷◌, Bool, true, false, ◌&&◌, Option, None, Some, ◌∙◌, ap, arith, inl, inr, subst, sym, length, get_or, drop}
use Rattle.std.specs.Int.{bit_at, trailing_zeros, w64}
use Rattle.std.proofs.lemmas.List.{drop_all}
use Rattle.std.proofs.lemmas.Bool.Decides.{nat_tests}
use Rattle.std.proofs.lemmas.Nat.Bits.{bit_at-trailing_zeros, bit_at-zero, bit_at_cat_high}
use Rattle.interval_set.specs.declared.set.Range.{Range}
use Rattle.interval_set.specs.Numbers.{IsSet, has}
use Rattle.interval_set.proofs.Spelling.{has_above, power}
use Rattle.name_set.specs.Least.{IsLeast as IsLeastName}
use Rattle.primitives.specs.declared.prim.Packet.{Packet}
use Rattle.primitives.specs.Holds.{has_bit}
use Rattle.box_norm.specs.declared.cube.Cube.{Cube}
use Rattle.box_norm.specs.Cubes.{holds_cube}
use Rattle.box_norm.specs.Overlaps.{and_of, holds_some}
use Rattle.box_norm.proofs.OverlapLaws.{and_holds}
use Rattle.region_cut.specs.Least.{AreApart, IsHit, IsLeastBit}
use Rattle.region_cut.specs.Search.{AllApart, IsFirstHit}
use Rattle.region_cut.specs.inner.Hits.{HitsFirst, HitsOne, IsLeastOf}
use Rattle.region_cut.proofs.Items.{drop_item}

-- numbers of a set are below its bound
pub below_bound : (w n : ℕ) (rs : List Range) → IsSet w rs → has rs n ≡ true → n < 2 ^ w
below_bound w n rs s h =
    let p = power w s.0 in
    let f : 2 ^ w - 1 < n → has rs n ≡ false = has_above (2 ^ w - 1) 0 n rs s.1 in
    grind (arith, f, h, p)

-- bits
no_bits : (n : ℕ) → has_bit 0 n ≡ false
no_bits n = let z = bit_at-zero n in grind (arith, nat_tests, z)

pub zero_bits : (bits : ℕ) → bits ≡ 0 → (n : ℕ) → has_bit bits n ≡ false
zero_bits bits e n = ap (λ b. has_bit b n) e ∙ no_bits n

pub least_bit_is : (bits n : ℕ) → 0 < bits → bits < 2 ^ 64 → n ≡ trailing_zeros w64 bits → IsLeastBit bits n × (n < 64)
least_bit_is bits n h k e =
    let t = bit_at-trailing_zeros w64 bits h k in
    rw e (
      (
        grind (arith, nat_tests, t.1),
        λ i g. let f : i < trailing_zeros w64 bits → bit_at bits i ≡ 0 = t.2 i in grind (arith, nat_tests, f, g),
      ),
      t.0,
    )

pub low_bit : (states n : ℕ) → states < 32 → has_bit states n ≡ true → n < 5
low_bit states n h k =
    let f : 5 ≤ n → bit_at states n ≡ 0 = λ l.
    let e : states ≡ 0 * 2 ^ 5 + states = omega arith in
    ap (λ s. bit_at s n) e ∙ bit_at_cat_high 0 5 states n h l ∙ bit_at-zero (n - 5) in
    grind (arith, nat_tests, f, k)

-- a dimension without a value
module _ {W : ℕ} (c : Cube W) where
  pub no_in_name : IsLeastName c.in_name None → IsLeastOf c None
  no_in_name h p v = let f = h p.in_name v.in_name in grind (arith, f)

  pub no_out_name : IsLeastName c.out_name None → IsLeastOf c None
  no_out_name h p v = let f = h p.out_name v.out_name in grind (arith, f)

  pub no_src : ((n : ℕ) → has c.src n ≡ false) → IsLeastOf c None
  no_src h p v = let f = h p.src in grind (arith, f)

  pub no_dst : ((n : ℕ) → has c.dst n ≡ false) → IsLeastOf c None
  no_dst h p v = let f = h p.dst in grind (arith, f)

  pub no_proto : ((n : ℕ) → has c.proto n ≡ false) → IsLeastOf c None
  no_proto h p v = let f = h p.proto in grind (arith, f)

  pub no_sport : ((n : ℕ) → has c.sport n ≡ false) → IsLeastOf c None
  no_sport h p v = let f = h p.sport in grind (arith, f)

  pub no_dport : ((n : ℕ) → has c.dport n ≡ false) → IsLeastOf c None
  no_dport h p v = let f = h p.dport in grind (arith, f)

  pub no_flags : ((n : ℕ) → has_bit c.flags n ≡ false) → IsLeastOf c None
  no_flags h p v = let f = h p.flags in grind (arith, f)

  pub no_state : ((n : ℕ) → has_bit c.state n ≡ false) → IsLeastOf c None
  no_state h p v = let f = h p.state in grind (arith, f)

  pub no_icmp : ((n : ℕ) → has c.icmp n ≡ false) → IsLeastOf c None
  no_icmp h p v = let f = h p.icmp in grind (arith, f)

-- what one region answers
held_by : (a b s : Bool) → s ≡ (a && b) → s ≡ false → a ≡ true → b ≡ true → ⊥
held_by a b s e f h k = absurd (grind (arith, e, f, h, k))

pub apart_none : {W : ℕ} (a b : Cube W) → and_of a b ≡ None → AreApart a b
apart_none a b e p v h k = held_by (holds_cube a p) (holds_cube b p) (holds_some (and_of a b) p) (and_holds a b p v) (ap (λ o. holds_some o p) e) h k

pub hits_one : {W : ℕ} (a b common : Cube W) → and_of a b ≡ Some common → (o : Option Packet) → IsLeastOf common o → HitsOne a b o
hits_one a b common e None l = λ p v h k. held_by (holds_cube a p) (holds_cube b p) (holds_some (and_of a b) p) (and_holds a b p v) (ap (λ o. holds_some o p) e ∙ l p v) h k
hits_one a b common e (Some p) l = record { common = common; common_is = e; least = l.0; valid = l.1 }

-- what several regions answer, where the first of them has no packet
later : {W : ℕ} (region : Cube W) (regions : List (Cube W)) (cube : Cube W) → AreApart region cube → (o : Option Packet) → HitsFirst regions cube o → HitsFirst (region ∷ regions) cube o
later region regions cube apart None h = (apart, h)
later region regions cube apart (Some p) h = inr (apart, h)

-- what the regions from this place on answer, all do
pub record Passed {W : ℕ} (regions : List (Cube W)) (cube : Cube W) (i : ℕ) : Type 0 where
  pub answers : (o : Option Packet) → HitsFirst (drop i regions) cube o → HitsFirst regions cube o

pub none_passed : {W : ℕ} (regions : List (Cube W)) (cube : Cube W) → Passed regions cube 0
none_passed regions cube = record { answers = λ o h. h }

pub all_passed : {W : ℕ} (regions : List (Cube W)) (cube : Cube W) (i : ℕ) → length regions ≤ i → Passed regions cube i → AllApart regions cube
all_passed regions cube i past s = s.answers None (subst (λ l. AllApart l cube) (sym (drop_all i regions past)) tt)

module _ {W : ℕ} (regions : List (Cube W)) (cube : Cube W) (i : ℕ) (x : Cube W) (h : i < length regions) (is : x ≡ get_or regions i x) (s : Passed regions cube i) where
  pub one_passed : AreApart x cube → Passed regions cube (i + 1)
  one_passed apart = record {
    answers = λ o hits. s.answers o (subst (λ l. HitsFirst l cube o) (sym (drop_item regions i x h is)) (later x (drop (i + 1) regions) cube apart o hits));
  }

  pub hit_at : (p : Packet) → IsHit x cube p → IsFirstHit regions cube p
  hit_at p hit = s.answers (Some p) (subst (λ l. IsFirstHit l cube p) (sym (drop_item regions i x h is)) (inl hit))
