use Rattle.std.proofs.Common.{ℕ, ◌≡◌, take}
use Rattle.interval_set.specs.Numbers.{has}
use Rattle.iface_space.specs.Routes.{is_routed}
use Rattle.iface_space.proofs.routes.Routes.unrouted.Given as goal

abbrev pub invariant-loop-hop : goal.invariant-loop-hop
invariant-loop-hop g l = (n : ℕ) → has l.routed n ≡ is_routed g.row.W (take l.hop-index l.hops) n
