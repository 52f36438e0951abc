use Rattle.std.proofs.Common.{◌≡◌, false, take}
use Rattle.iface_space.specs.Routes.{has_hop_named}
use Rattle.iface_space.proofs.routes.Routes.has_named.Given as goal

abbrev pub invariant-loop-hop : goal.invariant-loop-hop
invariant-loop-hop g l = has_hop_named (take l.hop-index l.hop-items) l.by ≡ false
