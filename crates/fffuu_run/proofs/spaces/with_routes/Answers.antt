use Rattle.std.proofs.Common.{◌∙◌, List, ap, sym}
use Rattle.iface_space.specs.declared.hop.Hop.{Hop}
use Rattle.iface_space.specs.Routed.{routed}
use Rattle.fffuu_run.proofs.Respecting.{some_routes}
use Rattle.fffuu_run.proofs.spaces.with_routes.Goals as goal

pub returns-clause-same : goal.returns-clause-same
returns-clause-same g c = c.in_ok-routed.ensures ∙ ap (λ (hops : List Hop). routed hops c.args.dump) c.in_ok-routes.ensures.same
    ∙ sym (some_routes c.args.hops.now c.args.dump c.is_empty.result c.is_empty.ensures c.if-is_empty.false)
