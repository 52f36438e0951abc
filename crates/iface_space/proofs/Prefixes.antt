-- Prefixes with an address in common.
use Rattle.std.proofs.Common.{ℕ, ◌-◌, ◌*◌, ◌/◌, ◌^◌, ◌<◌, ◌≡◌, ◌&&◌, inl, inr, Bool, true, false, List, nat_lt, arith, refl, sym, ap, ◌∙◌}
use Rattle.std.specs.Prelude.{Some, slice_get}
use Rattle.std.specs.List.{list_any}
use Rattle.std.proofs.lemmas.Bool.Decides.{nat_tests}
use Rattle.std.proofs.lemmas.Bool.{cases_lt}
use Rattle.std.proofs.lemmas.Map.Keys.{any_passes_from_place}
use Rattle.std.proofs.lemmas.Option.{same_Some}
use Rattle.iface_space.specs.declared.hop.Hop.{Hop}
use Rattle.iface_space.specs.Routes.{AreCleared, IsNext, PrefixesDiffer, holds, is_longest, is_routed, is_target}
use Rattle.iface_space.proofs.Passing.{passes_somewhere, none_passes}

quotients : (w d : ℕ) (hop : Hop) → holds w d hop ≡ true → d / 2 ^ (w - hop.len) ≡ hop.value / 2 ^ (w - hop.len)
quotients w d hop h = grind (arith, nat_tests, h)

longer_parts : (d : ℕ) (w : ℕ) (hop other : Hop) → (holds w d other && nat_lt hop.len other.len) ≡ true → (holds w d other ≡ true) × (hop.len < other.len)
longer_parts d w hop other h = (grind (arith, nat_tests, h), grind (arith, nat_tests, h))

longer_whole : (d : ℕ) (w : ℕ) (hop other : Hop) → holds w d other ≡ true → hop.len < other.len → (holds w d other && nat_lt hop.len other.len) ≡ true
longer_whole d w hop other h l = grind (arith, nat_tests, h, l)

module _ (w : ℕ) (hops : List Hop) (cleared : AreCleared w hops) (differ : PrefixesDiffer hops) where
  value_is : (d i : ℕ) (a : Hop) → slice_get hops i ≡ Some a → holds w d a ≡ true → a.value ≡ d / 2 ^ (w - a.len) * 2 ^ (w - a.len)
  value_is d i a at h = sym (cleared i a at) ∙ ap (λ q. q * 2 ^ (w - a.len)) (sym (quotients w d a h))

  same_value : (d i j : ℕ) (a b : Hop) → slice_get hops i ≡ Some a → slice_get hops j ≡ Some b → holds w d a ≡ true → holds w d b ≡ true →
      a.len ≡ b.len → a.value ≡ b.value
  same_value d i j a b at there h k e =
      value_is d i a at h ∙ ap (λ l. d / 2 ^ (w - l) * 2 ^ (w - l)) e ∙ sym (value_is d j b there k)

  -- two hops of one length that have an address in common are one
  pub one_hop : (d i j : ℕ) (a b : Hop) → slice_get hops i ≡ Some a → slice_get hops j ≡ Some b → holds w d a ≡ true → holds w d b ≡ true →
      a.len ≡ b.len → a ≡ b
  one_hop d i j a b at there h k e = elim (cases_lt i j) [
    | inl before ↦ absurd (differ j (i, a, b, before, at, there, same_value d i j a b at there h k e, e))
    | inr after ↦ elim (cases_lt j i) [
      | inl before ↦ absurd (differ i (j, b, a, before, there, at, sym (same_value d i j a b at there h k e), sym e))
      | inr also ↦ let same : i ≡ j = omega arith in same_Some a b (sym at ∙ ap (slice_get hops) same ∙ there)
    ]
  ]

  next_passes : (named : List ℕ → Bool) (d : ℕ) (hop : Hop) → IsNext w hops d hop → named hop.name ≡ true → is_target w hops named d ≡ true
  next_passes named d hop next e =
      let none : list_any (λ (other : Hop). holds w d other && nat_lt hop.len other.len) hops ≡ false =
      none_passes (λ (other : Hop). holds w d other && nat_lt hop.len other.len) hops
      (λ k other at h. let q = longer_parts d w hop other h in let l = next.longest k other at q.0 in let m = q.1 in omega arith) in
      let h = next.has_it in
      any_passes_from_place (λ (x : Hop). named x.name && is_longest w hops d x) hops next.place hop next.at (grind (arith, none, h, e))

  next_by : (named : List ℕ → Bool) (d : ℕ) (hop : Hop) (c t : Bool) → IsNext w hops d hop → named hop.name ≡ c → is_target w hops named d ≡ t → t ≡ c
  next_by named d hop true t next e f = sym f ∙ next_passes named d hop next e
  next_by named d hop false false next e f = refl
  next_by named d hop false true next e f =
      let p = passes_somewhere (λ (x : Hop). named x.name && is_longest w hops d x) hops f in
      let q = p.passes in
      let named_there : named p.item.name ≡ true = grind (arith, q) in
      let has_there : holds w d p.item ≡ true = grind (arith, q) in
      let none_longer : list_any (λ (other : Hop). holds w d other && nat_lt p.item.len other.len) hops ≡ false = grind (arith, q) in
      let below = next.longest p.place p.item p.at has_there in
      let above : p.item.len < hop.len → false ≡ true = λ l. sym none_longer
      ∙ any_passes_from_place (λ (other : Hop). holds w d other && nat_lt p.item.len other.len) hops next.place hop next.at
      (longer_whole d w p.item hop next.has_it l) in
      let same_len : p.item.len ≡ hop.len = elim (cases_lt p.item.len hop.len) [
        | inl l ↦ absurd (let x = above l in cc)
        | inr g ↦ omega arith
      ] in
      let same = one_hop d p.place next.place p.item hop p.at next.at has_there next.has_it same_len in
      sym (ap (λ (x : Hop). named x.name) (sym same) ∙ named_there) ∙ e

  -- an address is a target exactly where the name of its next hop passes
  pub next_is_target : (named : List ℕ → Bool) (d : ℕ) (hop : Hop) → IsNext w hops d hop → is_target w hops named d ≡ named hop.name
  next_is_target named d hop next = next_by named d hop (named hop.name) (is_target w hops named d) next refl refl

-- and none where no prefix has it
pub none_is_target : (w : ℕ) (hops : List Hop) (named : List ℕ → Bool) (d : ℕ) → is_routed w hops d ≡ false → is_target w hops named d ≡ false
none_is_target w hops named d none = none_passes (λ (x : Hop). named x.name && is_longest w hops d x) hops
    (λ k hop at h.
    let has_it : holds w d hop ≡ true = grind (arith, h) in
    let some = any_passes_from_place (holds w d) hops k hop at has_it in
    cc)
