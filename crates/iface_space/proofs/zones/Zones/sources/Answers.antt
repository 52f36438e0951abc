use Rattle.std.proofs.Common.{◌≡◌, List, subst}
use Rattle.name_set.specs.Patterns.{fits}
use Rattle.iface_space.specs.declared.zones.Zone.{Zone}
use Rattle.iface_space.specs.Zones.{sources_of}
use Rattle.iface_space.proofs.Sources.{found_all}
use Rattle.iface_space.proofs.zones.Zones.sources.Goals as goal

pub returns : goal.returns
returns g c = subst (λ (zones : List (Zone g.row.W)). c.loop-zone.found ≡ sources_of zones (fits c.args.by.now)) c.list-zones.ensures.same
    (found_all c.list-zones.result.now (fits c.args.by.now) c.loop-zone.zone-index c.loop-zone.found c.loop-zone.invariant c.loop-zone-test.false)
