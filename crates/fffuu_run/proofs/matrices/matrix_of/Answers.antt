use Rattle.std.proofs.lemmas.Result.{err_from_is_err_and}
use Rattle.fffuu_run.proofs.MatrixCauses.{matrix_comes, matrix_within}
use Rattle.fffuu_run.proofs.matrices.matrix_of.Goals as goal

pub returns-clause-within : goal.returns-clause-within
returns-clause-within g c = matrix_within c.args.side c.args.dump.now c.args.chain c.in_ok-found.ensures.few

pub returns-in_err-found-clause-refused : goal.returns-in_err-found-clause-refused
returns-in_err-found-clause-refused g c =
    let refused = matrix_comes c.args.side c.args.dump.now c.args.chain c.in_err-found.field-0.0 c.in_err-found.ensures.refused in
    let p = err_from_is_err_and c.from_residual.result c.from_residual.ensures.1 in
    rw (p.1, p.2) refused
