use Rattle.std.proofs.Common.{drop}
use Rattle.ip_partition.specs.inner.Starts.{ends, with_numbers}
use Rattle.ip_partition.proofs.Filling.{Fills}
use Rattle.ip_partition.proofs.boundaries.put_ends.Given as goal

abbrev pub invariant-loop-range : goal.invariant-loop-range
invariant-loop-range l = Fills (ends l.top (drop l.range-index l.ranges)) l.starts.items (with_numbers (ends l.top l.ranges) l.fn.starts.items)
