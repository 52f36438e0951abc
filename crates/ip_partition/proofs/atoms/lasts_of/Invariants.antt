use Rattle.ip_partition.proofs.Lasts.{LastsTo}
use Rattle.ip_partition.proofs.atoms.lasts_of.Given as goal

abbrev pub invariant-loop-atom : goal.invariant-loop-atom
invariant-loop-atom l = LastsTo l.leaders l.lasts.items l.atom
