use Rattle.std.proofs.Common.{◌≡◌, ◌++◌, drop}
use Rattle.fffuu_run.specs.Matrices.{edge_lines}
use Rattle.fffuu_run.proofs.matrices.append_edges.Given as goal

abbrev pub invariant-loop-i : goal.invariant-loop-i
invariant-loop-i l = l.out.items ++ edge_lines l.i (drop l.i l.edges) ≡ l.fn.out.items ++ edge_lines 0 l.edges
