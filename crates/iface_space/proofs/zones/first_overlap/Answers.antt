use Rattle.std.proofs.Common.{arith}
use Rattle.iface_space.proofs.Earlier.{are_apart, overlaps, seen_more, without_least}
use Rattle.iface_space.proofs.zones.first_overlap.Goals as goal

pub returns-then-is_some-clause-some : goal.returns-then-is_some-clause-some
returns-then-is_some-clause-some g c = (
  c.loop-at-test.true,
  (
    overlaps c.args.zones.now c.loop-at.at c.loop-at.seen c.in_ok-common.common c.index-zones-at.result c.least.result c.loop-at.invariant
        c.loop-at-test.true c.in_ok-common.ensures.numbers c.least.ensures.number c.if-is_some.ensures,
    c.loop-at.invariant.apart,
  ),
)

pub loop-at-preserved : goal.loop-at-preserved
loop-at-preserved g c = seen_more c.args.zones.now c.loop-at.at c.loop-at.seen c.in_ok-common.common c.in_ok-seen.seen c.index-zones-at.result
    c.loop-at.invariant c.loop-at-test.true c.in_ok-common.ensures.numbers
    (without_least c.least.result c.in_ok-common.common c.least.ensures.none c.if-is_some.ensures) c.in_ok-seen.ensures.numbers

pub returns-clause-none : goal.returns-clause-none
returns-clause-none g c = are_apart c.args.zones.now c.loop-at.at (omega arith) c.loop-at.invariant.apart
