use Rattle.region_cut.proofs.LeastLaws.{hit_at}
use Rattle.region_cut.proofs.hit.hit_in.Goals as goal

pub returns-in-Some : goal.returns-in-Some
returns-in-Some g c =
    hit_at c.args.regions.now c.args.cube.now c.loop-region.region-index c.region-item.result c.loop-region-test.true c.region-item.is c.loop-region.invariant c.in-Some.packet
    (rw c.in-Some.is at c.in_ok-packet.ensures)
