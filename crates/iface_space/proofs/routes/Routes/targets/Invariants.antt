use Rattle.name_set.specs.Patterns.{fits}
use Rattle.iface_space.specs.inner.Longest.{Told}
use Rattle.iface_space.proofs.routes.Routes.targets.Given as goal

abbrev pub invariant-loop-len : goal.invariant-loop-len
invariant-loop-len g l = Told g.row.W l.hops (fits l.by) l.len 0 l.found
