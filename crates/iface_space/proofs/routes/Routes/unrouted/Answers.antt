use Rattle.std.proofs.Common.{List, IfOk, ◌≡◌, ap, subst, ◌∙◌}
use Rattle.std.proofs.lemmas.List.{take_all}
use Rattle.interval_set.specs.declared.set.Range.{Range}
use Rattle.iface_space.specs.declared.hop.Hop.{Hop}
use Rattle.iface_space.specs.Routes.{is_routed, unrouted_of}
use Rattle.iface_space.proofs.Choosing.{unrouted_is}
use Rattle.iface_space.proofs.routes.Routes.unrouted.Goals as goal

pub returns : goal.returns
returns g c =
    let hops = c.list-hops.result.now in
    let is = unrouted_is g.row.W hops c.loop-hop.routed
    (λ n. c.loop-hop.invariant n ∙ ap (λ (xs : List Hop). is_routed g.row.W xs n) (take_all c.loop-hop.hop-index hops c.loop-hop-test.false)) in
    subst (λ (s : List Range). IfOk c.not.result (λ x. x ≡ s))
    (is ∙ ap (λ (xs : List Hop). unrouted_of g.row.W xs) c.list-hops.ensures.same) c.not.ensures.spelled
