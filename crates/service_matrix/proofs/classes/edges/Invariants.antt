use Rattle.std.proofs.Common.{◌≡◌, map, take}
use Rattle.service_matrix.specs.inner.Classes.{edge_row}
use Rattle.service_matrix.proofs.classes.edges.Given as goal

abbrev pub invariant-loop-class : goal.invariant-loop-class
invariant-loop-class g l = l.rows.items ≡ map (λ class. edge_row class l.classes) (take l.class-index l.classes)
