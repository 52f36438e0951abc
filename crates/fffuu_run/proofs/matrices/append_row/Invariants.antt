use Rattle.std.proofs.Common.{◌≡◌, ◌++◌, drop}
use Rattle.fffuu_run.specs.Matrices.{row_lines}
use Rattle.fffuu_run.proofs.matrices.append_row.Given as goal

abbrev pub invariant-loop-j : goal.invariant-loop-j
invariant-loop-j l = l.out.items ++ row_lines l.i l.j (drop l.j l.row) ≡ l.fn.out.items ++ row_lines l.i 0 l.row
