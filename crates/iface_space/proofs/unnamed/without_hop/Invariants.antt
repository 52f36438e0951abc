use Rattle.std.proofs.Common.{◌≡◌, ◌++◌, not}
use Rattle.std.specs.List.{filter}
use Rattle.iface_space.specs.Routes.{has_hop_named}
use Rattle.iface_space.proofs.unnamed.without_hop.Given as goal

abbrev pub invariant-loop-pattern : goal.invariant-loop-pattern
invariant-loop-pattern g l = l.unnamed.items ++ filter (λ by. not (has_hop_named l.routes by)) l.pattern-iterator.rest.items
    ≡ filter (λ by. not (has_hop_named l.routes by)) l.fn.patterns.items
