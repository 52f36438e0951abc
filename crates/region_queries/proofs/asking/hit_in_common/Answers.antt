use Rattle.std.proofs.Common.{sym}
use Rattle.std.proofs.lemmas.Result.{IfErr-weaker, IfOk-weaker}
use Rattle.region_queries.proofs.AskLemmas.{common_asked, common_refused, nothing_common}
use Rattle.region_queries.proofs.asking.hit_in_common.Goals as goal

pub returns-then-have_none_common-clause-answers : goal.returns-then-have_none_common-clause-answers
returns-then-have_none_common-clause-answers g c =
    nothing_common c.args.against.now c.args.policy c.args.region.now c.args.cube.now (c.have_none_common.ensures c.if-have_none_common.true)

pub returns-in-Some-clause-answers : goal.returns-in-Some-clause-answers
returns-in-Some-clause-answers g c =
    IfOk-weaker c.first_hit.result _ _
    (common_asked c.args.against.now c.args.policy c.args.region.now c.args.cube.now c.in-Some.common (sym (rw c.in-Some.is at c.in_ok-common.ensures.spelled))) c.first_hit.ensures.finds

pub returns-in-Some-clause-refused : goal.returns-in-Some-clause-refused
returns-in-Some-clause-refused g c =
    IfErr-weaker c.first_hit.result _ _
    (common_refused c.args.against.now c.args.policy c.args.region.now c.args.cube.now c.in-Some.common (sym (rw c.in-Some.is at c.in_ok-common.ensures.spelled))) c.first_hit.ensures.refused

pub returns-in-None-clause-answers : goal.returns-in-None-clause-answers
returns-in-None-clause-answers g c =
    nothing_common c.args.against.now c.args.policy c.args.region.now c.args.cube.now (sym (rw c.in-None.is at c.in_ok-common.ensures.spelled))
