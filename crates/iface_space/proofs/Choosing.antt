-- Where no hop has an address, and hops whose bits were cleared.
use Rattle.std.proofs.Common.{ℕ, ◌+◌, ◌-◌, ◌*◌, ◌/◌, ◌^◌, ◌<◌, ◌≡◌, Bool, false, not, List, map, length, arith, refl, sym, subst, ap, ◌∙◌, div-mul-le_self}
use Rattle.std.specs.Prelude.{Option, None, Some, slice_get}
use Rattle.std.specs.Option.{option_map}
use Rattle.std.proofs.Math.Nat.{div-eq_of_lt-le}
use Rattle.std.proofs.lemmas.Nat.{pow_pos}
use Rattle.std.proofs.lemmas.Option.{same_Some, slice_get_within, slice_get-map}
use Rattle.interval_set.specs.declared.set.Range.{Range}
use Rattle.interval_set.specs.Numbers.{has}
use Rattle.interval_set.specs.Spelling.{ranges_where, set_not}
use Rattle.iface_space.specs.declared.hop.Hop.{Hop}
use Rattle.iface_space.specs.Routes.{AreCleared, AreHops, IsHop, cleared, holds, is_routed, unrouted_of}
use Rattle.iface_space.specs.inner.Longest.{NoneHolds}
use Rattle.iface_space.proofs.Passing.{none_passes}

pub none_routed : (w : ℕ) (hops : List Hop) (d : ℕ) → NoneHolds w hops d (length hops) → is_routed w hops d ≡ false
none_routed w hops d none = none_passes (holds w d) hops (λ k hop at h. none.none k hop (slice_get_within hops k hop at) at h)

-- what a set of all the prefixes leaves
pub unrouted_is : (w : ℕ) (hops : List Hop) (routed : List Range) → ((n : ℕ) → has routed n ≡ is_routed w hops n) → set_not w routed ≡ unrouted_of w hops
unfolding set_not
unrouted_is w hops routed e = ap (λ (f : ℕ → Bool). ranges_where (λ d. not (f d)) (2 ^ w)) (λ i n. e n i)

-- the hop that was cleared
record Before (w : ℕ) (o : Option Hop) (hop : Hop) : Type 0 where
  was : Hop
  at : o ≡ Some was
  is : cleared w was ≡ hop

before : (w : ℕ) (o : Option Hop) (hop : Hop) → option_map (cleared w) o ≡ Some hop → Before w o hop
before w None hop e = absurd (cc)
before w (Some x) hop e = record { was = x; at = refl; is = same_Some _ _ e }

-- clearing leaves lengths as they are and no value greater
pub cleared_fit : (w : ℕ) (hops : List Hop) → AreHops w hops → AreHops w (map (cleared w) hops)
cleared_fit w hops fit i hop at =
    let b = before w (slice_get hops i) hop (sym (slice_get-map (cleared w) hops i) ∙ at) in
    let f = fit i b.was b.at in
    let v = f.value in
    let l = div-mul-le_self b.was.value (2 ^ (w - b.was.len)) in
    subst (IsHop w) b.is (record { value = omega arith; len = f.len })

twice : (v s : ℕ) → 0 < s → (v / s * s) / s * s ≡ v / s * s
twice v s p =
    let e : (v / s + 1) * s ≡ v / s * s + s = grind arith in
    ap (λ q. q * s) (div-eq_of_lt-le s (omega arith) (omega (arith, e)))

pub are_cleared : (w : ℕ) (hops : List Hop) → AreCleared w (map (cleared w) hops)
are_cleared w hops i hop at =
    let b = before w (slice_get hops i) hop (sym (slice_get-map (cleared w) hops i) ∙ at) in
    subst (λ (x : Hop). x.value / 2 ^ (w - x.len) * 2 ^ (w - x.len) ≡ x.value) b.is
    (twice b.was.value (2 ^ (w - b.was.len)) (pow_pos (w - b.was.len)))
