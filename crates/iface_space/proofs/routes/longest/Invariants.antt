use Rattle.iface_space.specs.inner.Longest.{IsBestOf}
use Rattle.iface_space.proofs.routes.longest.Given as goal

abbrev pub invariant-loop-at : goal.invariant-loop-at
invariant-loop-at g l = IsBestOf g.row.W l.hops l.d l.at l.best
