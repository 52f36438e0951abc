-- What a dump with zones and routes has of the dump itself, and the other way round.
use Rattle.std.proofs.Common.{◌≡◌, ◌∙◌, ◌⊎◌, ◌<◌, ℕ, Bool, List, [], ◌∷◌, ap, inl, inr, subst, sym}
use Rattle.basics.proofs.Lists.{map_place}
use Rattle.primitives.specs.declared.prim.Prim_.{Prim_}
use Rattle.fw_rule.specs.declared.rule.Chain.{Chain}
use Rattle.fw_rule.specs.declared.rule.Dump.{Dump}
use Rattle.fw_rule.specs.declared.rule.Lit.{Lit}
use Rattle.fw_rule.specs.Calls.{HasRoom}
use Rattle.fw_rule.specs.Walk.{mapped_by, mapped_chain}
use Rattle.fw_laws.proofs.Mapping.{calls_stay, policies_stay, room_stays}
use Rattle.chain_graph.specs.Paths.{CallsNameChains}
use Rattle.closure.specs.Checked.{HasPolicy}
use Rattle.iface_space.specs.declared.hop.Hop.{Hop}
use Rattle.iface_space.specs.Assigned.{assigned_literal}
use Rattle.iface_space.specs.Routed.{routed_literal}
use Rattle.iface_space.specs.Routes.{AreHops}
use Rattle.request.specs.Requests.{HasBounds, width_of}
use Rattle.request.specs.Spaces.{AreZones, HavePrefixes, HaveRanges, routes_of, zones_of}
use Rattle.request.specs.declared.types.Mode.{Mode}
use Rattle.request.specs.declared.types.Mode.TheVariants as mode
use Rattle.request.specs.declared.types.Claim.{Claim}
use Rattle.simple_filter.specs.declared.refusal.Kind.{Kind}
use Rattle.simple_filter.specs.declared.refusal.Refusal.{Refusal}
use Rattle.fffuu_run.specs.Questions.{Comes, IsToldAs, IsWithin}
use Rattle.fffuu_run.specs.Respecting.{with_routes, with_spaces, with_zones}
use Rattle.fffuu_run.specs.declared.status.Status.{Status}
use Rattle.fffuu_run.specs.declared.status.Status.TheVariants as status
use Rattle.fffuu_run.proofs.HiddenRules.{comes_from, within_from}

module _ {W : ℕ} (Q : Dump (Prim_ W) → Type 0) where
  module _ (step : (image : Lit (Prim_ W) → Lit (Prim_ W)) (dump : Dump (Prim_ W)) → Q dump → Q (mapped_by image dump)) where
    to_zones : (claims : List Claim) (dump : Dump (Prim_ W)) → Q dump → Q (with_zones claims dump)
    to_zones [] dump q = q
    to_zones (claim ∷ claims) dump q = step (assigned_literal (zones_of W (claim ∷ claims))) dump q

    to_routes : (hops : List Hop) (dump : Dump (Prim_ W)) → Q dump → Q (with_routes hops dump)
    to_routes [] dump q = q
    to_routes (hop ∷ hops) dump q = step (routed_literal (routes_of W (hop ∷ hops))) dump q

    to_spaces : (claims : List Claim) (hops : List Hop) (dump : Dump (Prim_ W)) → Q dump → Q (with_spaces claims hops dump)
    to_spaces claims hops dump q = to_routes hops (with_zones claims dump) (to_zones claims dump q)

  module _ (step : (image : Lit (Prim_ W) → Lit (Prim_ W)) (dump : Dump (Prim_ W)) → Q (mapped_by image dump) → Q dump) where
    from_zones : (claims : List Claim) (dump : Dump (Prim_ W)) → Q (with_zones claims dump) → Q dump
    from_zones [] dump q = q
    from_zones (claim ∷ claims) dump q = step (assigned_literal (zones_of W (claim ∷ claims))) dump q

    from_routes : (hops : List Hop) (dump : Dump (Prim_ W)) → Q (with_routes hops dump) → Q dump
    from_routes [] dump q = q
    from_routes (hop ∷ hops) dump q = step (routed_literal (routes_of W (hop ∷ hops))) dump q

    from_spaces : (claims : List Claim) (hops : List Hop) (dump : Dump (Prim_ W)) → Q (with_spaces claims hops dump) → Q dump
    from_spaces claims hops dump q = from_zones claims dump (from_routes hops (with_zones claims dump) q)

told_step : {P : Type 0} (r : Refusal) (s : Status) (image : Lit P → Lit P) (dump : Dump P) → IsToldAs (mapped_by image dump) r s → IsToldAs dump r s
told_step (Refusal.Unsupported line name) s image dump told = told
told_step (Refusal.Loop c) s image dump (name, (here, at, named), is) =
    let (first, there, same) = map_place (mapped_chain image) dump.chains c here at in
    (name, (first, there, ap (λ (h : Chain _). h.name) same ∙ named), is)
told_step (Refusal.Limit k) s image dump told = told
told_step Refusal.Memory s image dump told = told

module _ {W : ℕ} (claims : List Claim) (hops : List Hop) (dump other : Dump (Prim_ W)) (is : other ≡ with_spaces claims hops dump) (chain : ℕ) where
  pub policy_there : HasPolicy dump chain → HasPolicy other chain
  policy_there has = subst (λ (d : Dump (Prim_ W)). HasPolicy d chain) (sym is)
      (to_spaces (λ d. HasPolicy d chain) (λ image d h. (h.0, policies_stay d image chain ∙ h.1)) claims hops dump has)

  pub room_there : HasRoom dump → HasRoom other
  room_there has = subst (λ (d : Dump (Prim_ W)). HasRoom d) (sym is) (to_spaces (λ d. HasRoom d) (λ image d h. room_stays d image h) claims hops dump has)

  pub names_there : CallsNameChains dump → CallsNameChains other
  names_there has = subst (λ (d : Dump (Prim_ W)). CallsNameChains d) (sym is)
      (to_spaces (λ d. CallsNameChains d) (λ image d h a b calls. subst (λ (n : ℕ). b < n) (sym (calls_stay d image).0) (h a b (((calls_stay d image).1 a b).1 calls))) claims hops dump has)

  module _ (IsOver : Dump (Prim_ W) → Kind → Type 0) where
    pub comes_here : (r : Refusal) → Comes other chain (IsOver other) r → Comes dump chain (IsOver (with_spaces claims hops dump)) r
    comes_here r comes =
        from_spaces (λ d. Comes d chain (IsOver (with_spaces claims hops dump)) r) (λ image d. comes_from image d chain (IsOver (with_spaces claims hops dump)) r) claims hops dump
        (subst (λ (d : Dump (Prim_ W)). Comes d chain (IsOver d) r) is comes)

    pub within_here : IsWithin other chain (IsOver other) → IsWithin dump chain (IsOver (with_spaces claims hops dump))
    within_here within =
        from_spaces (λ d. IsWithin d chain (IsOver (with_spaces claims hops dump))) (λ image d. within_from image d chain (IsOver (with_spaces claims hops dump))) claims hops dump
        (subst (λ (d : Dump (Prim_ W)). IsWithin d chain (IsOver d)) is within)

  pub told_here : (r : Refusal) (s : Status) → (s ≡ status.Memory) ⊎ IsToldAs other r s → (s ≡ status.Memory) ⊎ IsToldAs dump r s
  told_here r s (inl memory) = inl memory
  told_here r s (inr told) =
      inr (from_spaces (λ d. IsToldAs d r s) (told_step r s) claims hops dump (subst (λ (d : Dump (Prim_ W)). IsToldAs d r s) is told))

-- what is known of the arguments of a mode is known of the lists that the code takes from it
pub zones_bounds : (six : Bool) (W : ℕ) (m : Mode) (claims list : List Claim) → m ≡ mode.Zones claims → list ≡ claims → width_of six ≡ W → HasBounds six m
    → HaveRanges W list × AreZones W list
zones_bounds six W m claims list is same width bounds =
    let own : HasBounds six (mode.Zones claims) = subst (HasBounds six) is bounds in
    subst (λ (cs : List Claim). HaveRanges W cs × AreZones W cs) (sym same) (subst (λ (w : ℕ). HaveRanges w claims × AreZones w claims) width own)

pub routes_bounds : (six : Bool) (W : ℕ) (m : Mode) (hops list : List Hop) → m ≡ mode.Routes hops → list ≡ hops → width_of six ≡ W → HasBounds six m
    → AreHops W list × HavePrefixes W list
routes_bounds six W m hops list is same width bounds =
    let own : HasBounds six (mode.Routes hops) = subst (HasBounds six) is bounds in
    subst (λ (hs : List Hop). AreHops W hs × HavePrefixes W hs) (sym same) (subst (λ (w : ℕ). AreHops w hops × HavePrefixes w hops) width own)
