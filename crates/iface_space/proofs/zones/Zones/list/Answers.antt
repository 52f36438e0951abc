use Rattle.std.proofs.Common.{List, subst}
use Rattle.iface_space.specs.declared.zones.Zone.{Zone}
use Rattle.iface_space.specs.Zones.{NamesDiffer, AreApart}
use Rattle.iface_space.proofs.zones.Zones.list.Goals as goal

pub returns-clause-names : goal.returns-clause-names
returns-clause-names g c = subst (λ (zones : List (Zone g.row.W)). NamesDiffer zones) c.self.view_is c.self.invariant.1

pub returns-clause-addresses : goal.returns-clause-addresses
returns-clause-addresses g c = subst (λ (zones : List (Zone g.row.W)). AreApart zones) c.self.view_is c.self.invariant.2
