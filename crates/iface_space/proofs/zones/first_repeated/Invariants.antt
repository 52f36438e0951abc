use Rattle.iface_space.specs.Zones.{HasEarlierName}
use Rattle.iface_space.proofs.Earlier.{NoneBefore}
use Rattle.iface_space.proofs.zones.first_repeated.Given as goal

abbrev pub invariant-loop-at : goal.invariant-loop-at
invariant-loop-at g l = NoneBefore (HasEarlierName l.zones) l.at
