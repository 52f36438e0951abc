use Rattle.ip_partition.proofs.Gathering.{Gathered}
use Rattle.ip_partition.proofs.classes.class_ranges.Given as goal

abbrev pub invariant-loop-atom : goal.invariant-loop-atom
invariant-loop-atom g l = Gathered g.row.W l.starts l.numbering.leaders.items l.leader l.atom l.ranges.items
