use Rattle.iface_space.proofs.Earlier.{NoneNamed}
use Rattle.iface_space.proofs.zones.has_earlier_name.Given as goal

abbrev pub invariant-loop-i : goal.invariant-loop-i
invariant-loop-i g l = NoneNamed l.zones l.at l.i
