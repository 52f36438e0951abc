use Rattle.region_queries.proofs.AskLemmas.{one_found}
use Rattle.region_queries.proofs.asking.hit_in_regions.Goals as goal

pub returns-in-Some-clause-answers : goal.returns-in-Some-clause-answers
returns-in-Some-clause-answers g c =
    one_found c.args.against.now c.args.policy c.args.regions.now c.args.cube.now c.loop-region.region-index c.region-item.result c.loop-region-test.true c.region-item.is c.loop-region.invariant c.in-Some.packet
    (rw c.in-Some.is at c.in_ok-packet.ensures.answers)
