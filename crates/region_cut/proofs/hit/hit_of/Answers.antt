use Rattle.std.proofs.Common.{sym}
use Rattle.std.proofs.lemmas.Result.{IfOk-weaker}
use Rattle.region_cut.proofs.LeastLaws.{apart_none, hits_one}
use Rattle.region_cut.proofs.UnderLaws.{missed_none}
use Rattle.region_cut.proofs.hit.hit_of.Goals as goal

pub returns-then-are_apart : goal.returns-then-are_apart
returns-then-are_apart g c = apart_none c.args.region.now c.args.cube.now (missed_none c.args.region.now c.args.cube.now (c.are_apart.ensures c.if-are_apart.true))

pub returns-in-Some : goal.returns-in-Some
returns-in-Some g c =
    IfOk-weaker c.least_packet.result _ _ (hits_one c.args.region.now c.args.cube.now c.in-Some.common (sym (rw c.in-Some.is at c.in_ok-common.ensures.spelled))) c.least_packet.ensures
