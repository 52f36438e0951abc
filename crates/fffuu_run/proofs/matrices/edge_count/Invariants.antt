use Rattle.std.proofs.Common.{◌≡◌, ◌≤◌, ◌*◌, take}
use Rattle.fffuu_run.specs.Matrices.{edge_count}
use Rattle.fffuu_run.proofs.matrices.edge_count.Given as goal

abbrev pub invariant-loop-row : goal.invariant-loop-row
invariant-loop-row l = (l.count ≡ edge_count (take l.row-index l.edges)) × (l.count ≤ l.row-index * 18446744073709551615)
