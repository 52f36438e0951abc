use Rattle.name_set.specs.Patterns.{fits}
use Rattle.iface_space.specs.inner.Longest.{Told}
use Rattle.iface_space.proofs.routes.told_by.Given as goal

abbrev pub invariant-loop-hop : goal.invariant-loop-hop
invariant-loop-hop g l = Told g.row.W l.hops (fits l.by) l.len l.hop-index l.found
