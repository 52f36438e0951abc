use Rattle.std.proofs.Common.{◌≡◌, ◌++◌, drop}
use Rattle.fffuu_run.specs.Matrices.{class_lines}
use Rattle.fffuu_run.proofs.matrices.append_classes.Given as goal

abbrev pub invariant-loop-i : goal.invariant-loop-i
invariant-loop-i g l = l.out.items ++ class_lines g.F.Family.text_of l.i (drop l.i l.classes) ≡ l.fn.out.items ++ class_lines g.F.Family.text_of 0 l.classes
