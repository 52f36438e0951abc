use Rattle.std.proofs.Common.{List, ap, sym, ◌∙◌}
use Rattle.iface_space.specs.declared.hop.Hop.{Hop}
use Rattle.iface_space.specs.Routes.{is_routed}
use Rattle.iface_space.proofs.Choosing.{none_routed}
use Rattle.iface_space.proofs.routes.Routes.next.Goals as goal

pub returns-in-None-clause-none : goal.returns-in-None-clause-none
returns-in-None-clause-none g c = ap (λ (hops : List Hop). is_routed g.row.W hops c.args.d) (sym c.list-hops.ensures.same)
    ∙ none_routed g.row.W c.list-hops.result.now c.args.d c.in-None.ensures
