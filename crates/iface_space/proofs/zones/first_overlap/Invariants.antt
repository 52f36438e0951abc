use Rattle.iface_space.proofs.Earlier.{SeenTo}
use Rattle.iface_space.proofs.zones.first_overlap.Given as goal

abbrev pub invariant-loop-at : goal.invariant-loop-at
invariant-loop-at g l = SeenTo l.zones l.at l.seen
