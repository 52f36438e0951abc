use Rattle.std.proofs.Common.{length}
use Rattle.service_matrix.proofs.rows.+by_halves.Given as goal

abbrev pub decreases-by_halves : goal.decreases-by_halves
decreases-by_halves g l = length l.rules.now
