use Rattle.std.proofs.Common.{◌≡◌, ◌++◌, not}
use Rattle.std.specs.List.{filter}
use Rattle.iface_space.specs.Zones.{has_zone_named}
use Rattle.iface_space.proofs.unnamed.without_zone.Given as goal

abbrev pub invariant-loop-pattern : goal.invariant-loop-pattern
invariant-loop-pattern g l = l.unnamed.items ++ filter (λ by. not (has_zone_named l.zones by)) l.pattern-iterator.rest.items
    ≡ filter (λ by. not (has_zone_named l.zones by)) l.fn.patterns.items
