use Rattle.std.proofs.Common.{◌∙◌, arith, refl}
use Rattle.std.proofs.lemmas.Result.{err_from_is_err_and}
use Rattle.fffuu_run.proofs.FilterCauses.{closed_refused, few_lines, many_lines}
use Rattle.fffuu_run.proofs.loading.size_of_side.Goals as goal

pub returns-in-Ok-clause-within : goal.returns-in-Ok-clause-within
returns-in-Ok-clause-within g c =
    few_lines g.F.Family.text_of c.args.name.now c.args.dump.now c.args.chain c.args.side _ (c.as_slice.ensures ∙ c.in_ok-rules.ensures.rules)
    c.in_ok-rules.ensures.checked c.in_ok-rules.ensures.small (omega (arith, c.in-Ok.ensures.few, c.in-Ok.ensures.count))

pub returns-in-Err-Lines-clause-refused : goal.returns-in-Err-Lines-clause-refused
returns-in-Err-Lines-clause-refused g c =
    let many = rw c.in-Err-Lines.field-0-is at c.in-Err-Lines.ensures.many in
    many_lines g.F.Family.text_of c.args.name.now c.args.dump.now c.args.chain c.args.side _ (c.as_slice.ensures ∙ c.in_ok-rules.ensures.rules)
    c.in_ok-rules.ensures.checked c.in_ok-rules.ensures.small (many refl)

pub returns-in_err-rules-clause-refused : goal.returns-in_err-rules-clause-refused
returns-in_err-rules-clause-refused g c =
    let refused = closed_refused g.F.Family.text_of c.args.name.now c.args.dump.now c.args.chain c.args.side c.in_err-rules.field-0.0 c.in_err-rules.ensures.refused in
    let p = err_from_is_err_and c.from_residual.result c.from_residual.ensures.1 in
    rw (p.1, p.2) refused
