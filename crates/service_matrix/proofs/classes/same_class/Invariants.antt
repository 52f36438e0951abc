use Rattle.std.proofs.Common.{drop}
use Rattle.std.specs.List.{AllByRecursion}
use Rattle.service_matrix.specs.inner.Classes.{Differ}
use Rattle.service_matrix.proofs.classes.same_class.Given as goal

abbrev pub invariant-loop-at : goal.invariant-loop-at
invariant-loop-at g l = AllByRecursion (λ class. Differ class l.new) (drop l.at l.classes) → AllByRecursion (λ class. Differ class l.new) l.classes
