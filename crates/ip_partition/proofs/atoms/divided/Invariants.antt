use Rattle.ip_partition.proofs.Dividing.{Dividing}
use Rattle.ip_partition.proofs.atoms.divided.Given as goal

abbrev pub invariant-loop-atom : goal.invariant-loop-atom
invariant-loop-atom l = Dividing l.leaders l.inside l.others.items l.next.items l.atom
