use Rattle.std.proofs.Common.{◌≡◌, take}
use Rattle.service_matrix.specs.inner.Classes.{edge_row}
use Rattle.service_matrix.proofs.classes.edges_from.Given as goal

abbrev pub invariant-loop-class : goal.invariant-loop-class
invariant-loop-class g l = l.row.items ≡ edge_row l.from (take l.class-index l.classes)
