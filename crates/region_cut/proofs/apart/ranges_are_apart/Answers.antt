use Rattle.interval_set.proofs.Lists.{zero_range}
use Rattle.region_cut.proofs.ApartLaws.{left_turn, right_turn}
use Rattle.region_cut.proofs.apart.ranges_are_apart.Goals as goal

pub loop-i-preserved-then-a-i : goal.loop-i-preserved-then-a-i
loop-i-preserved-then-a-i g c =
    left_turn g.row.W c.args.a.now c.args.b.now c.loop-i.i c.loop-i.j zero_range c.loop-i-test.true c.if-j-b.true c.loop-i.invariant c.if-a-i.true

pub loop-i-preserved : goal.loop-i-preserved
loop-i-preserved g c =
    right_turn g.row.W c.args.a.now c.args.b.now c.loop-i.i c.loop-i.j zero_range c.loop-i-test.true c.if-j-b.true c.loop-i.invariant c.if-b-j.true
