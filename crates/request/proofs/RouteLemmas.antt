-- A route has one net and one name.
use Rattle.std.proofs.Common.{◌≡◌, ◌∙◌, ◌<◌, ◌≤◌, ◌^◌, ◌==◌, ◌++◌, length, ℕ, List, ◌∷◌, Bool, true, sym, ap, subst, arith, inl, inr, refl, codes, option_map, Bor, Option, None, Some}
use Rattle.std.specs.List.{AllZip}
use Rattle.basics.specs.Parts.{Lacks}
use Rattle.basics.proofs.PartingLemmas.{lacks_none, one_parting}
use Rattle.addr_text.proofs.PartLemmas.{lacks_slash}
use Rattle.addr_text.proofs.TextLemmas.{IsFamily}
use Rattle.iface_space.specs.declared.hop.Hop.{Hop}
use Rattle.iface_space.specs.Routes.{AreHops, IsHop}
use Rattle.request.specs.Arguments.{IsNet, IsPrefixOf, IsRoute}
use Rattle.request.specs.Fields.{SaysAddress, value_after}
use Rattle.request.specs.Requests.{width_of}
use Rattle.request.proofs.ClaimLemmas.{family_fits, family_laws, no_bytes, no_slash, same_prefix, width_small}
use Rattle.request.proofs.ReadingLemmas.{zip_each, zip_once}
use Rattle.request.proofs.SpaceLemmas.{each_at}

module _ (Reads : List ℕ → ℕ → Type 0) (W : ℕ) where
  -- a text that is neither is no net
  pub no_net : (text : List ℕ) → ((address len : ℕ) → IsPrefixOf Reads W text address len → ⊥) → ((address : ℕ) → Reads text address → ⊥)
      → (address len : ℕ) → IsNet Reads W text address len → ⊥
  no_net text no_prefix no_address address len (inl prefix) = no_prefix address len prefix
  no_net text no_prefix no_address address len (inr (reads, is)) = no_address address reads

  -- what follows `via:`
  abbrev after : List ℕ → Option (List ℕ)
  after text = value_after (codes "via:") text

  after_via : (text : List ℕ) (hop : Hop) (is : IsRoute Reads W text hop) → after text ≡ Some (is.net ++ (61 ∷ hop.name))
  after_via text hop is = ap after is.parted

  module _ (text : List ℕ) (o : Option (Bor (List ℕ))) (value : option_map (λ (s : Bor (List ℕ)). s.now) o ≡ after text) where
    -- a text that doesn't begin so is no route
    pub no_via : o ≡ None → (hop : Hop) → IsRoute Reads W text hop → ⊥
    no_via none hop is =
        let e : None ≡ Some (is.net ++ (61 ∷ hop.name)) = sym (ap (option_map (λ (s : Bor (List ℕ)). s.now)) none) ∙ value ∙ after_via text hop is in
        absurd (cc)

    module _ (rest : Bor (List ℕ)) (there : o ≡ Some rest) where
      rest_is : (hop : Hop) (is : IsRoute Reads W text hop) → rest.now ≡ is.net ++ (61 ∷ hop.name)
      rest_is hop is =
          let e : Some rest.now ≡ Some (is.net ++ (61 ∷ hop.name)) = sym (ap (option_map (λ (s : Bor (List ℕ)). s.now)) there) ∙ value ∙ after_via text hop is in
          cc

      -- nor is one without `=`
      pub no_parting : Lacks 61 rest.now → (hop : Hop) → IsRoute Reads W text hop → ⊥
      no_parting lacks hop is = lacks_none 61 rest.now is.net hop.name lacks (rest_is hop is)

      module _ (front back : List ℕ) (cut : (rest.now ≡ front ++ (61 ∷ back)) × Lacks 61 front) where
        parts_of : (hop : Hop) (is : IsRoute Reads W text hop) → (front ≡ is.net) × (back ≡ hop.name)
        parts_of hop is = one_parting 61 rest.now front back is.net hop.name cut.1 is.first cut.0 (rest_is hop is)

        -- nor one without a name
        pub nameless : (b : Bool) → b ≡ (length back == 0) → b ≡ true → (hop : Hop) → IsRoute Reads W text hop → ⊥
        nameless b test holds hop is = is.named (sym (parts_of hop is).1 ∙ no_bytes back (sym test ∙ holds))

        -- nor one without a net
        pub netless : ((address len : ℕ) → IsNet Reads W front address len → ⊥) → (hop : Hop) → IsRoute Reads W text hop → ⊥
        netless none hop is = none hop.value hop.len (subst (λ (t : List ℕ). IsNet Reads W t hop.value hop.len) (sym (parts_of hop is).0) is.is_net)

module _ (Reads : List ℕ → ℕ → Type 0) (laws : IsFamily Reads) (W : ℕ) where
  net_once : W ≤ 128 → (text : List ℕ) (x k y l : ℕ) → IsNet Reads W text x k → IsNet Reads W text y l → (x ≡ y) × (k ≡ l)
  net_once most text x k y l (inl p) (inl q) = same_prefix Reads laws W most text x k y l p q
  net_once most text x k y l (inl p) (inr (reads, is)) = absurd (no_slash Reads laws W text (lacks_slash text (laws.plain text y reads)) x k p)
  net_once most text x k y l (inr (reads, is)) (inl q) = absurd (no_slash Reads laws W text (lacks_slash text (laws.plain text x reads)) y l q)
  net_once most text x k y l (inr (reads, is)) (inr (reads', is')) = (laws.one text x y reads reads', is ∙ sym is')

  same_hop : (a b : Hop) → a.value ≡ b.value → a.len ≡ b.len → a.name ≡ b.name → a ≡ b
  same_hop a b e f g = λ i. record { value = e i; len = f i; name = g i }

  route_once : W ≤ 128 → (text : List ℕ) (a b : Hop) → IsRoute Reads W text a → IsRoute Reads W text b → a ≡ b
  route_once most text a b p q =
      let same : Some (p.net ++ (61 ∷ a.name)) ≡ Some (q.net ++ (61 ∷ b.name)) = sym (after_via Reads W text a p) ∙ after_via Reads W text b q in
      let e : p.net ++ (61 ∷ a.name) ≡ q.net ++ (61 ∷ b.name) = cc in
      let (nets, names) = one_parting 61 (p.net ++ (61 ∷ a.name)) p.net a.name q.net b.name p.first q.first refl e in
      let (values, lengths) = net_once most p.net a.value a.len b.value b.len p.is_net (subst (λ (t : List ℕ). IsNet Reads W t b.value b.len) (sym nets) q.is_net) in
      same_hop a b values lengths names

  net_bound : ((text : List ℕ) (value : ℕ) → Reads text value → value < 2 ^ W) → (text : List ℕ) (hop : Hop) → IsNet Reads W text hop.value hop.len → IsHop W hop
  net_bound fits text hop (inl (front, (split, reads, short))) = record { value = fits front hop.value reads; len = short }
  net_bound fits text hop (inr (reads, is)) = record { value = fits text hop.value reads; len = omega (arith, is) }

-- arguments have one list of hops
pub hops_once_by : (Reads : List ℕ → ℕ → Type 0) (W : ℕ) → IsFamily Reads → W ≤ 128 → (arguments : List (List ℕ)) (a b : List Hop)
    → AllZip (IsRoute Reads W) arguments a → AllZip (IsRoute Reads W) arguments b → a ≡ b
hops_once_by Reads W laws most arguments a b p q = zip_once (IsRoute Reads W) (route_once Reads laws W most) arguments a b p q

pub hops_once : (six : Bool) (arguments : List (List ℕ)) (a b : List Hop) → AllZip (IsRoute (SaysAddress six) (width_of six)) arguments a
    → AllZip (IsRoute (SaysAddress six) (width_of six)) arguments b → a ≡ b
hops_once six = hops_once_by (SaysAddress six) (width_of six) (family_laws six) (width_small six)

-- the hops are of the family's addresses
pub hops_bound_by : (Reads : List ℕ → ℕ → Type 0) (W : ℕ) → IsFamily Reads → ((text : List ℕ) (value : ℕ) → Reads text value → value < 2 ^ W)
    → (arguments : List (List ℕ)) (hops : List Hop) → AllZip (IsRoute Reads W) arguments hops → AreHops W hops
hops_bound_by Reads W laws fits arguments hops are i hop at =
    each_at (IsHop W) hops i hop
    (zip_each (IsRoute Reads W) (IsHop W) (λ text hop is. net_bound Reads laws W fits is.net hop is.is_net) arguments hops are) at

pub hops_bound : (six : Bool) (arguments : List (List ℕ)) (hops : List Hop) → AllZip (IsRoute (SaysAddress six) (width_of six)) arguments hops → AreHops (width_of six) hops
hops_bound six = hops_bound_by (SaysAddress six) (width_of six) (family_laws six) (family_fits six)
