use Rattle.std.proofs.Common.{take}
use Rattle.ip_partition.proofs.Alike.{AlikeTo}
use Rattle.ip_partition.proofs.atoms.numbering_of.Given as goal

abbrev pub invariant-loop-set : goal.invariant-loop-set
invariant-loop-set g l = AlikeTo l.starts (take l.set-index l.sets) l.numbering.leaders.items l.numbering.lasts.items
