-- Of a packet that respects routes, its destination is a target for some names exactly where its output interface has one.
use Rattle.std.proofs.Common.{ℕ, ◌≡◌, ◌^◌, ◌<◌, Bool, List, arith, refl, ap}
use Rattle.std.proofs.lemmas.Bool.Decides.{nat_tests}
use Rattle.interval_set.specs.Numbers.{has}
use Rattle.interval_set.proofs.Spelling.{where_has}
use Rattle.name_set.specs.Patterns.{fits}
use Rattle.primitives.specs.Holds.{holds_of, IsValid}
use Rattle.primitives.specs.declared.prim.Packet.{Packet}
use Rattle.primitives.specs.declared.prim.Prim_.{Prim_}
use Rattle.iface_space.specs.declared.hop.Hop.{Hop}
use Rattle.iface_space.specs.Routes.{AreCleared, PrefixesDiffer, Respects, is_target, targets_of}
use Rattle.iface_space.specs.Routed.{routed_test}
use Rattle.iface_space.proofs.Prefixes.{next_is_target}

module _ {W : ℕ} (hops : List Hop) (cleared : AreCleared W hops) (differ : PrefixesDiffer hops) (p : Packet) (respects : Respects W hops p) where
  target_told : (named : List ℕ → Bool) → p.dst < 2 ^ W → has (targets_of W hops named) p.dst ≡ named p.out_name
  target_told named l =
      let h = where_has (is_target W hops named) (2 ^ W) p.dst in
      let k = next_is_target W hops cleared differ named p.dst respects.0 respects.1 in
      let e : named p.out_name ≡ named respects.0.name = ap named respects.2 in
      grind (arith, nat_tests, h, k, l, e)

  pub test_same : IsValid W p → (test : Prim_ W) → holds_of (routed_test hops test) p ≡ holds_of test p
  test_same valid (Prim_.OutName pattern) = target_told (fits pattern) valid.dst
  test_same valid test = refl
