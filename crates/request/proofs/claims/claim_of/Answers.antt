use Rattle.request.proofs.ClaimLemmas.{no_equals, no_name, no_set}
use Rattle.request.proofs.ReadingLemmas.{handed_on}
use Rattle.request.proofs.claims.claim_of.Goals as goal

pub returns-in_default-clause-usage : goal.returns-in_default-clause-usage
returns-in_default-clause-usage g c error = no_equals g.F.Family.Reads g.row.W c.args.text.now c.in_default.ensures.none

pub returns-then-is_empty-clause-usage : goal.returns-then-is_empty-clause-usage
returns-then-is_empty-clause-usage g c error =
    no_name g.F.Family.Reads g.row.W c.args.text.now c.in-Some.name.now c.in-Some.set.now c.in-Some.ensures.some
    c.is_empty.result c.is_empty.ensures c.if-is_empty.true

pub returns-in_err-ranges-clause-usage : goal.returns-in_err-ranges-clause-usage
returns-in_err-ranges-clause-usage g c error =
    no_set g.F.Family.Reads g.row.W c.args.text.now c.in-Some.name.now c.in-Some.set.now c.in-Some.ensures.some
    (c.in_err-ranges.ensures.usage (handed_on c.from_residual.result _ _ c.from_residual.ensures.1 error))
