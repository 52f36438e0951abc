-- Arguments that are no mode's.
use Rattle.std.proofs.Common.{◌≡◌, ◌≢◌, ◌∙◌, ◌==◌, ℕ, List, [], ◌∷◌, Bool, false, Bor, sym, subst, map, length, arith, decimal}
use Rattle.std.specs.List.{AllZip, filter}
use Rattle.std.specs.Prelude.{Err, IfOk, Ok, Result, not}
use Rattle.std.proofs.lemmas.Bool.Decides.{nat_tests}
use Rattle.std.proofs.lemmas.Fmt.{decimal_injective}
use Rattle.fw_rule.specs.declared.side.Side.{Side}
use Rattle.service_packet.specs.declared.service.Service.{Service}
use Rattle.iface_space.specs.declared.hop.Hop.{Hop}
use Rattle.request.specs.Arguments.{IsService, SpellRoutes, SpellZones, is_route}
use Rattle.request.specs.Fields.{SaysAddress}
use Rattle.request.specs.declared.types.Claim.{Claim}
use Rattle.request.specs.declared.types.Mode.{Mode}
use Rattle.request.specs.declared.types.Mode.TheVariants as mode
use Rattle.request.specs.declared.types.SpellFault.{SpellFault}
use Rattle.request.specs.Requests.{HasBounds, AsksLoad, AsksMatrix, Parts, Suits, width_of}
use Rattle.request.proofs.ClaimLemmas.{claims_bound}
use Rattle.request.proofs.RouteLemmas.{hops_bound}

module _ (six : Bool) (parts : Parts) (service : Service) (side : Side) (zones : List Claim) (hops : List Hop)
    (asks : AsksMatrix six parts service side zones hops) where
  -- a matrix has arguments
  pub no_arguments : parts.args ≡ [] → ⊥
  no_arguments none = let e : [] ≡ asks.first ∷ asks.rest = sym none ∙ asks.args_are in cc

  module _ (first : List ℕ) (rest : List (List ℕ)) (args : parts.args ≡ first ∷ rest) where
    split : asks.first ∷ asks.rest ≡ first ∷ rest
    split = sym asks.args_are ∙ args

    -- of which the first is the service
    pub service_there : IsService first service
    service_there = let same : asks.first ≡ first = let e = split in cc in subst (λ (t : List ℕ). IsService t service) same asks.service_is

    rest_is : asks.rest ≡ rest
    rest_is = let e = split in cc

    -- and the others are zones
    pub zones_there : SpellZones (SaysAddress six) (width_of six) (filter (λ text. not (is_route text)) rest) zones
    zones_there = subst (λ (ts : List (List ℕ)). SpellZones (SaysAddress six) (width_of six) (filter (λ text. not (is_route text)) ts) zones) rest_is asks.zones_are

    -- and routes
    pub routes_there : SpellRoutes (SaysAddress six) (width_of six) (filter is_route rest) hops
    routes_there = subst (λ (ts : List (List ℕ)). SpellRoutes (SaysAddress six) (width_of six) (filter is_route ts) hops) rest_is asks.routes_are

-- a load of no rules
pub no_rules : (parts : Parts) (text : List ℕ) (n : ℕ) → parts.args ≡ text ∷ [] → text ≡ decimal n → n ≡ 0 → (count : ℕ) → AsksLoad parts count → ⊥
no_rules parts text n one is zero count (low, high, args, side, chain, family) =
    let e : text ∷ [] ≡ decimal count ∷ [] = sym one ∙ args in
    let same : decimal count ≡ decimal n = cc in
    let number : count ≡ n = decimal_injective count n (omega (arith, high)) (omega (arith, zero)) same in
    omega (arith, number, zero, low)

not_none : (b : Bool) (n : ℕ) → b ≡ (n == 0) → b ≡ false → 0 ≡ n → ⊥
not_none b n test off none = grind (arith, nat_tests, test, off, none)

-- where there are arguments, there are values
pub some_values : {A : Type 0} (Is : List ℕ → A → Type 0) (arguments : List (Bor (List ℕ))) (xs : List A) (b : Bool) (n : ℕ) → AllZip Is (map (λ s. s.now) arguments) xs
    → b ≡ (n == 0) → b ≡ false → length arguments ≡ n → xs ≢ []
some_values Is [] xs b n are test off counted none = not_none b n test off counted
some_values Is (argument ∷ arguments) [] b n are test off counted none = are
some_values Is (argument ∷ arguments) (x ∷ xs) b n are test off counted none = cc

-- claims have ranges of the family
pub spoof_bound : (six : Bool) (parts : Parts) (r : Result Mode SpellFault) → IfOk r (λ m. (claims : List Claim) × (m ≡ mode.Spoof claims) × Suits six parts m)
    → IfOk r (HasBounds six)
spoof_bound six parts (Ok m) (claims, is, suits) =
    let own : Suits six parts (mode.Spoof claims) = subst (Suits six parts) is suits in
    subst (HasBounds six) (sym is) (claims_bound six parts.args claims own.2)
spoof_bound six parts (Err e) h = tt

pub zones_bound : (six : Bool) (parts : Parts) (r : Result Mode SpellFault) → IfOk r (λ m. (claims : List Claim) × (m ≡ mode.Zones claims) × Suits six parts m)
    → IfOk r (HasBounds six)
zones_bound six parts (Ok m) (claims, is, suits) =
    let own : Suits six parts (mode.Zones claims) = subst (Suits six parts) is suits in
    subst (HasBounds six) (sym is) (claims_bound six parts.args claims own.2.0, own.2.1)
zones_bound six parts (Err e) h = tt

-- so have routes addresses
pub routes_bound : (six : Bool) (parts : Parts) (r : Result Mode SpellFault) → IfOk r (λ m. (hops : List Hop) × (m ≡ mode.Routes hops) × Suits six parts m)
    → IfOk r (HasBounds six)
routes_bound six parts (Ok m) (hops, is, suits) =
    let own : Suits six parts (mode.Routes hops) = subst (Suits six parts) is suits in
    subst (HasBounds six) (sym is) (hops_bound six parts.args hops own.2.0, own.2.1)
routes_bound six parts (Err e) h = tt

-- and what a matrix has of both
pub matrix_bound : (six : Bool) (parts : Parts) (r : Result Mode SpellFault)
    → IfOk r (λ m. (service : Service) × (side : Side) × (zones : List Claim) × (hops : List Hop) × (m ≡ mode.Matrix service side zones hops)
    × AsksMatrix six parts service side zones hops) → IfOk r (HasBounds six)
matrix_bound six parts (Ok m) (service, side, zones, hops, is, asks) = subst (HasBounds six) (sym is) (record {
  ranges = claims_bound six (filter (λ text. not (is_route text)) asks.rest) zones asks.zones_are.0;
  zones_are = asks.zones_are.1;
  hops_are = hops_bound six (filter is_route asks.rest) hops asks.routes_are.0;
  prefixes = asks.routes_are.1;
})
matrix_bound six parts (Err e) h = tt

-- and each suits its mode
pub matrix_suits : (six : Bool) (parts : Parts) (r : Result Mode SpellFault)
    → IfOk r (λ m. (service : Service) × (side : Side) × (zones : List Claim) × (hops : List Hop) × (m ≡ mode.Matrix service side zones hops)
    × AsksMatrix six parts service side zones hops) → IfOk r (Suits six parts)
matrix_suits six parts (Ok m) (service, side, zones, hops, is, asks) = subst (Suits six parts) (sym is) asks
matrix_suits six parts (Err e) h = tt
