use Rattle.name_set.specs.Patterns.{fits}
use Rattle.iface_space.proofs.Sources.{FoundTo}
use Rattle.iface_space.proofs.zones.Zones.sources.Given as goal

abbrev pub invariant-loop-zone : goal.invariant-loop-zone
invariant-loop-zone g l = FoundTo l.zones (fits l.by) l.zone-index l.found
