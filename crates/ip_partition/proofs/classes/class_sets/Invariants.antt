use Rattle.ip_partition.specs.inner.Classes.{AreClasses}
use Rattle.ip_partition.proofs.classes.class_sets.Given as goal

abbrev pub invariant-loop-atom : goal.invariant-loop-atom
invariant-loop-atom g l = AreClasses g.row.W l.starts l.numbering.leaders.items l.atom l.classes.items
