use Rattle.std.proofs.Common.{◌∙◌, ap, map, sym, refl, subst, List, ℕ, Bor}
use Rattle.request.specs.Arguments.{IsService, SpellRoutes, SpellZones}
use Rattle.request.specs.Fields.{SaysAddress}
use Rattle.request.specs.Lines.{line_parts}
use Rattle.request.specs.Requests.{width_of}
use Rattle.request.proofs.ModeLemmas.{no_arguments, routes_there, service_there, zones_there}
use Rattle.request.proofs.ReadingLemmas.{handed_on}
use Rattle.request.proofs.line.matrix.Goals as goal

pub returns-clause-ok : goal.returns-clause-ok
returns-clause-ok c = (
  c.in-Some-service_of.service,
  c.in-Some-side_of.side,
  c.in_ok-zones.zones,
  c.in_ok-hops.hops,
  refl,
  record {
    first = c.in-Some.first.now;
    rest = map (λ (s : Bor (List ℕ)). s.now) c.in-Some.rest.now;
    args_are = ap (map (λ (s : Bor (List ℕ)). s.now)) (sym c.deref.ensures.value) ∙ c.in-Some.ensures.some;
    service_is = subst (λ (t : List ℕ). IsService t c.in-Some-service_of.service) c.as_bytes.ensures.value c.in-Some-service_of.ensures.some;
    side_is = c.in-Some-side_of.ensures.some;
    zones_are = subst (λ (ts : List (List ℕ)). SpellZones (SaysAddress c.args.six) (width_of c.args.six) ts c.in_ok-zones.zones)
        (ap (map (λ (s : Bor (List ℕ)). s.now)) c.deref-2.ensures.value ∙ c.in_ok-others.ensures.0) c.in_ok-zones.ensures.ok;
    routes_are = subst (λ (ts : List (List ℕ)). SpellRoutes (SaysAddress c.args.six) (width_of c.args.six) ts c.in_ok-hops.hops)
        (ap (map (λ (s : Bor (List ℕ)). s.now)) c.deref-3.ensures.value ∙ c.in_ok-others.ensures.1) c.in_ok-hops.ensures.ok;
  },
)

pub returns-in_default-service_of-clause-usage : goal.returns-in_default-service_of-clause-usage
returns-in_default-service_of-clause-usage c error service side zones hops asks =
    let there = service_there c.args.six (line_parts c.args.line.now) service side zones hops asks c.in-Some.first.now (map (λ (s : Bor (List ℕ)). s.now) c.in-Some.rest.now)
    (ap (map (λ (s : Bor (List ℕ)). s.now)) (sym c.deref.ensures.value) ∙ c.in-Some.ensures.some) in
    c.in_default-service_of.ensures.none service (subst (λ (t : List ℕ). IsService t service) (sym c.as_bytes.ensures.value) there)

pub returns-in_default-clause-usage : goal.returns-in_default-clause-usage
returns-in_default-clause-usage c error service side zones hops asks =
    no_arguments c.args.six (line_parts c.args.line.now) service side zones hops asks
    (ap (map (λ (s : Bor (List ℕ)). s.now)) (sym c.deref.ensures.value) ∙ c.in_default.ensures.none)

pub returns-in_err-zones-clause-usage : goal.returns-in_err-zones-clause-usage
returns-in_err-zones-clause-usage c error service side zones hops asks =
    let there = zones_there c.args.six (line_parts c.args.line.now) service side zones hops asks c.in-Some.first.now (map (λ (s : Bor (List ℕ)). s.now) c.in-Some.rest.now)
    (ap (map (λ (s : Bor (List ℕ)). s.now)) (sym c.deref.ensures.value) ∙ c.in-Some.ensures.some) in
    c.in_err-zones.ensures.usage (handed_on c.from_residual-in_err-zones.result _ _ c.from_residual-in_err-zones.ensures.1 error) zones
    (subst (λ (ts : List (List ℕ)). SpellZones (SaysAddress c.args.six) (width_of c.args.six) ts zones)
    (sym (ap (map (λ (s : Bor (List ℕ)). s.now)) c.deref-2.ensures.value ∙ c.in_ok-others.ensures.0)) there)

pub returns-in_err-hops-clause-usage : goal.returns-in_err-hops-clause-usage
returns-in_err-hops-clause-usage c error service side zones hops asks =
    let there = routes_there c.args.six (line_parts c.args.line.now) service side zones hops asks c.in-Some.first.now (map (λ (s : Bor (List ℕ)). s.now) c.in-Some.rest.now)
    (ap (map (λ (s : Bor (List ℕ)). s.now)) (sym c.deref.ensures.value) ∙ c.in-Some.ensures.some) in
    c.in_err-hops.ensures.usage (handed_on c.from_residual-in_err-hops.result _ _ c.from_residual-in_err-hops.ensures.1 error) hops
    (subst (λ (ts : List (List ℕ)). SpellRoutes (SaysAddress c.args.six) (width_of c.args.six) ts hops)
    (sym (ap (map (λ (s : Bor (List ℕ)). s.now)) c.deref-3.ensures.value ∙ c.in_ok-others.ensures.1)) there)
