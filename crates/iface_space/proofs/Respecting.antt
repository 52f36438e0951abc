-- Of a packet that respects zones, its source is behind interfaces of some names exactly where its input interface has one.
use Rattle.std.proofs.Common.{ℕ, ◌<◌, ◌≡◌, ◌^◌, ◌&&◌, inl, inr, Bool, true, false, List, arith, refl, sym, ap, ◌∙◌}
use Rattle.std.specs.Prelude.{Some, slice_get}
use Rattle.std.proofs.lemmas.Bool.Decides.{nat_tests}
use Rattle.std.proofs.lemmas.Bool.{cases_lt}
use Rattle.std.proofs.lemmas.Map.Keys.{any_passes_from_place}
use Rattle.std.proofs.lemmas.Option.{same_Some}
use Rattle.interval_set.specs.Numbers.{has}
use Rattle.interval_set.proofs.Spelling.{where_has}
use Rattle.name_set.specs.Patterns.{fits}
use Rattle.primitives.specs.Holds.{holds_of, IsValid}
use Rattle.primitives.specs.declared.prim.Packet.{Packet}
use Rattle.primitives.specs.declared.prim.Prim_.{Prim_}
use Rattle.iface_space.specs.declared.zones.Zone.{Zone}
use Rattle.iface_space.specs.Zones.{is_behind, sources_of, AreApart, Respects}
use Rattle.iface_space.specs.Assigned.{assigned_test}
use Rattle.iface_space.proofs.Passing.{passes_somewhere}

module _ {W : ℕ} (zones : List (Zone W)) (apart : AreApart zones) where
  -- two zones with an address in common are one
  one_zone : (i j : ℕ) (a b : Zone W) (n : ℕ) → slice_get zones i ≡ Some a → slice_get zones j ≡ Some b →
      has a.inside n ≡ true → has b.inside n ≡ true → a ≡ b
  one_zone i j a b n at there h k = elim (cases_lt i j) [
    | inl before ↦ absurd (apart j (i, a, b, (before, at, there), (n, h, k)))
    | inr after ↦ elim (cases_lt j i) [
      | inl before ↦ absurd (apart i (j, b, a, (before, there, at), (n, k, h)))
      | inr also ↦ let same : i ≡ j = omega arith in same_Some a b (sym at ∙ ap (slice_get zones) same ∙ there)
    ]
  ]

  module _ (p : Packet) (respects : Respects zones p) where
    by_name : (named : List ℕ → Bool) (c d : Bool) → named p.in_name ≡ c → is_behind zones named p.src ≡ d → d ≡ c
    by_name named true d e f =
        let z = respects.1 in
        let here : named z.name ≡ true = ap named (sym respects.3) ∙ e in
        let both : (named z.name && has z.inside p.src) ≡ true = let k = respects.4 in grind (arith, here, k) in
        sym f ∙ any_passes_from_place (λ (x : Zone W). named x.name && has x.inside p.src) zones respects.0 z respects.2 both
    by_name named false false e f = refl
    by_name named false true e f =
        let w = passes_somewhere (λ (x : Zone W). named x.name && has x.inside p.src) zones f in
        let k = w.passes in
        let named_there : named w.item.name ≡ true = grind (arith, k) in
        let has_there : has w.item.inside p.src ≡ true = grind (arith, k) in
        let same = one_zone w.place respects.0 w.item respects.1 p.src w.at respects.2 has_there respects.4 in
        let there : named p.in_name ≡ true = ap named respects.3 ∙ ap (λ (x : Zone W). named x.name) (sym same) ∙ named_there in
        sym there ∙ e

    pub source_told : (named : List ℕ → Bool) → p.src < 2 ^ W → has (sources_of zones named) p.src ≡ named p.in_name
    source_told named l =
        let h = where_has (is_behind zones named) (2 ^ W) p.src in
        let k = by_name named (named p.in_name) (is_behind zones named p.src) refl refl in
        grind (arith, nat_tests, h, k, l)

    pub test_same : IsValid W p → (test : Prim_ W) → holds_of (assigned_test zones test) p ≡ holds_of test p
    test_same valid (Prim_.InName pattern) = source_told (fits pattern) valid.src
    test_same valid test = refl
