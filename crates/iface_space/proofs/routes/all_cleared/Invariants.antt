use Rattle.std.proofs.Common.{◌≡◌, ◌++◌, map}
use Rattle.iface_space.specs.Routes.{cleared}
use Rattle.iface_space.proofs.routes.all_cleared.Given as goal

abbrev pub invariant-loop-hop : goal.invariant-loop-hop
invariant-loop-hop g l = l.hops.items ++ map (cleared g.row.W) l.hop-iterator.rest.items ≡ map (cleared g.row.W) l.fn.list
