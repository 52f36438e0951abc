use Rattle.std.proofs.Common.{arith}
use Rattle.interval_set.proofs.Joins.{left_turn, right_turn}
use Rattle.interval_set.proofs.passes.either.Goals as goal

pub loop-i-preserved-then-a-i : goal.loop-i-preserved-then-a-i
loop-i-preserved-then-a-i g c = (
  omega (arith, c.loop-i-test.true),
  c.loop-i.invariant.1,
  left_turn g.row.W c.args.a.now c.args.b.now c.loop-i.i c.loop-i.j c.loop-i.out.items _ c.loop-i-test.true c.if-j-b.true c.loop-i.invariant.2 c.if-a-i.true
      (record { numbers = c.in_ok-join.ensures.numbers; set = c.in_ok-join.ensures.set; last = c.in_ok-join.ensures.last }),
)

pub loop-i-preserved : goal.loop-i-preserved
loop-i-preserved g c = (
  c.loop-i.invariant.0,
  omega (arith, c.if-j-b.true),
  right_turn g.row.W c.args.a.now c.args.b.now c.loop-i.i c.loop-i.j c.loop-i.out.items _ c.loop-i-test.true c.if-j-b.true c.loop-i.invariant.2 (omega (arith, c.if-a-i.false))
      (record { numbers = c.in_ok-join-2.ensures.numbers; set = c.in_ok-join-2.ensures.set; last = c.in_ok-join-2.ensures.last }),
)
