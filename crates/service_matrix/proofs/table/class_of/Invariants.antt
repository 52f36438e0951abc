use Rattle.std.proofs.Common.{◌≡◌, false, drop}
use Rattle.std.specs.List.{AllByRecursion}
use Rattle.interval_set.specs.Numbers.{has}
use Rattle.service_matrix.proofs.table.class_of.Given as goal

abbrev pub invariant-loop-at : goal.invariant-loop-at
invariant-loop-at g l = AllByRecursion (λ class. has class l.address ≡ false) (drop l.at l.classes) → AllByRecursion (λ class. has class l.address ≡ false) l.classes
