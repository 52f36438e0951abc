use Rattle.std.proofs.Common.{List, subst}
use Rattle.iface_space.specs.declared.hop.Hop.{Hop}
use Rattle.iface_space.specs.Routes.{AreCleared, AreHops, PrefixesDiffer}
use Rattle.iface_space.proofs.routes.Routes.list.Goals as goal

pub returns-clause-hops : goal.returns-clause-hops
returns-clause-hops g c = subst (λ (hops : List Hop). AreHops g.row.W hops) c.self.view_is c.self.invariant.1

pub returns-clause-cleared : goal.returns-clause-cleared
returns-clause-cleared g c = subst (λ (hops : List Hop). AreCleared g.row.W hops) c.self.view_is c.self.invariant.2

pub returns-clause-prefixes : goal.returns-clause-prefixes
returns-clause-prefixes g c = subst (λ (hops : List Hop). PrefixesDiffer hops) c.self.view_is c.self.invariant.3
