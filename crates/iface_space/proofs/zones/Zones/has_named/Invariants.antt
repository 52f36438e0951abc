use Rattle.std.proofs.Common.{◌≡◌, false, take}
use Rattle.iface_space.specs.Zones.{has_zone_named}
use Rattle.iface_space.proofs.zones.Zones.has_named.Given as goal

abbrev pub invariant-loop-zone : goal.invariant-loop-zone
invariant-loop-zone g l = has_zone_named (take l.zone-index l.zone-items) l.by ≡ false
