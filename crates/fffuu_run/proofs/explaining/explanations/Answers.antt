use Rattle.std.proofs.Common.{refl}
use Rattle.std.proofs.lemmas.Result.{err_from_is_err_and}
use Rattle.fffuu_run.proofs.Closings.{check_refuses, few_visits, many_visits}
use Rattle.fffuu_run.proofs.explaining.explanations.Goals as goal

pub returns-in-Ok-clause-within : goal.returns-in-Ok-clause-within
returns-in-Ok-clause-within g c =
    few_visits c.args.dump.now c.args.chain c.in_ok-ranked.ranked c.in_ok-ranked.ensures.within c.in_ok-ranked.ensures.ok
    (λ many. let f = c.in-Ok.ensures.visits.1 many in absurd (cc))

pub returns-in-Err-Visits-clause-refused : goal.returns-in-Err-Visits-clause-refused
returns-in-Err-Visits-clause-refused g c =
    let visits = rw c.in-Err-Visits.field-0-is at c.in-Err-Visits.ensures.visits in
    many_visits c.args.dump.now c.args.chain c.in_ok-ranked.ranked c.in_ok-ranked.ensures.within c.in_ok-ranked.ensures.ok (visits.0 refl)

pub returns-in_err-ranked-clause-refused : goal.returns-in_err-ranked-clause-refused
returns-in_err-ranked-clause-refused g c =
    let refused = check_refuses c.args.dump.now c.args.chain c.in_err-ranked.field-0.0 c.in_err-ranked.ensures.refused in
    let p = err_from_is_err_and c.from_residual.result c.from_residual.ensures.1 in
    rw (p.1, p.2) refused
