use Rattle.std.proofs.Common.{◌≡◌, None, List, ℕ, Bor, map, option_map, refl, rules, subst}
use Rattle.request.specs.Arguments.{IsRoute, SpellRoutes}
use Rattle.request.specs.Fields.{SaysAddress}
use Rattle.request.specs.Requests.{width_of}
use Rattle.request.proofs.ModeLemmas.{some_values}
use Rattle.request.proofs.line.routes.Goals as goal

pub returns-clause-ok : goal.returns-clause-ok
returns-clause-ok c =
    let are = subst (λ (arguments : List (Bor (List ℕ))). SpellRoutes (SaysAddress c.args.six) (width_of c.args.six) (map (λ s. s.now) arguments) c.in_ok-routes_in.field-0)
    c.deref.ensures.value c.in_ok-routes_in.ensures.ok in
    let side : option_map (λ (s : Bor (List ℕ)). s.now) c.args.line.now.side ≡ None = search rules in
    let some = some_values (IsRoute (SaysAddress c.args.six) (width_of c.args.six)) c.deref.result.now c.in_ok-routes_in.field-0 _ _ c.in_ok-routes_in.ensures.ok.0
    c.is_empty.ensures c.if-is_empty.false c.deref.ensures.len in
    (c.in_ok-routes_in.field-0, refl, (side, some, are))
