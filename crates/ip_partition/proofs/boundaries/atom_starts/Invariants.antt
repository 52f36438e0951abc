use Rattle.std.proofs.Common.{drop}
use Rattle.std.specs.List.{flat_map}
use Rattle.ip_partition.specs.inner.Starts.{ends, starts_of}
use Rattle.ip_partition.proofs.Filling.{Fills}
use Rattle.ip_partition.proofs.boundaries.atom_starts.Given as goal

abbrev pub invariant-loop-set : goal.invariant-loop-set
invariant-loop-set g l = Fills (flat_map (ends l.top) (drop l.set-index l.sets)) l.starts.items (starts_of g.row.W l.sets)
