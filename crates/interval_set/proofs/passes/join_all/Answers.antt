use Rattle.std.proofs.Common.{[]}
use Rattle.interval_set.proofs.Joins.{left_joined_at}
use Rattle.interval_set.proofs.passes.join_all.Goals as goal

pub loop-x-preserved : goal.loop-x-preserved
loop-x-preserved g c =
    left_joined_at g.row.W c.args.out.now.items c.args.rest.now c.args.rest.now c.loop-x.x-index [] c.loop-x.out.items c.join.new.out.items
    c.loop-x-test.true c.loop-x.invariant tt
    (record { numbers = c.in_ok-join.ensures.numbers; set = c.in_ok-join.ensures.set; last = c.in_ok-join.ensures.last })
