use Rattle.std.proofs.Common.{refl}
use Rattle.region_cut.specs.inner.Misses.{Misses}
use Rattle.region_cut.proofs.Items.{each_passed}
use Rattle.region_cut.proofs.apart.are_all_apart.Goals as goal

pub loop-region-preserved : goal.loop-region-preserved
loop-region-preserved g c =
    each_passed (λ r. Misses r c.args.cube.now) c.args.regions.now c.loop-region.region-index c.region-item.result c.loop-region-test.true c.region-item.is
    (c.if-not-are_apart.ensures refl) c.loop-region.invariant
