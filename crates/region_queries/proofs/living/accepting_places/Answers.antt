use Rattle.std.proofs.Common.{◌∙◌, Err, ap, arith}
use Rattle.std.proofs.lemmas.Result.{err_from_is_err_and}
use Rattle.region_queries.proofs.DeadLemmas.{checked_refused, few_explained}
use Rattle.region_queries.proofs.living.accepting_places.Goals as goal

pub returns-in_err-ranked-clause-refused : goal.returns-in_err-ranked-clause-refused
returns-in_err-ranked-clause-refused g c =
    let p = err_from_is_err_and c.from_residual.result c.from_residual.ensures.1 in
    rw (p.1, p.2) (checked_refused c.args.probe.now c.args.entry c.requires.checked c.in_err-ranked.field-0.0 c.in_err-ranked.ensures.refused)

pub returns-in-Err-Visits-clause-refused : goal.returns-in-Err-Visits-clause-refused
returns-in-Err-Visits-clause-refused g c =
    let few = few_explained c.args.probe.now c.args.entry c.in_ok-ranked.ranked c.requires.few c.in_ok-ranked.ensures.ranked in
    let many = (c.explain.ensures.visits).0 (c.in-Err-Visits.is ∙ ap Err c.in-Err-Visits.field-0-is) in
    absurd (omega (arith, few, many))
