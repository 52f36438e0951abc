use Rattle.std.proofs.Common.{List, subst}
use Rattle.iface_space.specs.declared.zones.Zone.{Zone}
use Rattle.iface_space.specs.First.{IsFirst}
use Rattle.iface_space.specs.Zones.{HasEarlierName, HasEarlierAddress, NamesDiffer, AreApart}
use Rattle.iface_space.proofs.zones.Zones.new.Goals as goal

pub returns-in-Some-clause-refused : goal.returns-in-Some-clause-refused
returns-in-Some-clause-refused g c =
    subst (λ (zones : List (Zone g.row.W)). IsFirst (HasEarlierName zones) c.in-Some.at) c.as_slice-zones.ensures c.in-Some.ensures.some.1

pub returns-in-Some-2-clause-refused : goal.returns-in-Some-2-clause-refused
returns-in-Some-2-clause-refused g c =
    let first = rw c.in-Some-2.is at c.in_ok-at.ensures.some in (
      subst (λ (zones : List (Zone g.row.W)). NamesDiffer zones) c.as_slice-zones.ensures c.in_default.ensures.none,
      subst (λ (zones : List (Zone g.row.W)). IsFirst (HasEarlierAddress zones) c.in-Some-2.at) c.as_slice-zones.ensures first.1,
    )

pub invariant_of-result : goal.invariant_of-result
invariant_of-result g c =
    let apart = rw c.in_default-2.is at c.in_ok-at.ensures.none in (
      c.requires.width,
      subst (λ (zones : List (Zone g.row.W)). NamesDiffer zones) c.as_slice-zones.ensures c.in_default.ensures.none,
      subst (λ (zones : List (Zone g.row.W)). AreApart zones) c.as_slice-zones.ensures apart,
    )

pub returns-clause-valid : goal.returns-clause-valid
returns-clause-valid g c =
    let apart = rw c.in_default-2.is at c.in_ok-at.ensures.none in (
      subst (λ (zones : List (Zone g.row.W)). NamesDiffer zones) c.as_slice-zones.ensures c.in_default.ensures.none,
      subst (λ (zones : List (Zone g.row.W)). AreApart zones) c.as_slice-zones.ensures apart,
    )
