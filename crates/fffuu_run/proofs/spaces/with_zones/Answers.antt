use Rattle.std.proofs.Common.{◌∙◌, List, ap, sym}
use Rattle.iface_space.specs.declared.zones.Zone.{Zone}
use Rattle.iface_space.specs.Assigned.{assigned}
use Rattle.fffuu_run.proofs.Respecting.{some_zones}
use Rattle.fffuu_run.proofs.spaces.with_zones.Goals as goal

pub returns-clause-same : goal.returns-clause-same
returns-clause-same g c = c.in_ok-assigned.ensures ∙ ap (λ (zones : List (Zone g.row.W)). assigned zones c.args.dump) c.in_ok-zones.ensures.same
    ∙ sym (some_zones c.args.claims.now c.args.dump c.is_empty.result c.is_empty.ensures c.if-is_empty.false)
