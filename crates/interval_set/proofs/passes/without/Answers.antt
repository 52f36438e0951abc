use Rattle.std.proofs.Common.{drop}
use Rattle.interval_set.proofs.Cuts.{one_taken_at}
use Rattle.interval_set.proofs.passes.without.Goals as goal

pub loop-x-preserved : goal.loop-x-preserved
loop-x-preserved g c =
    one_taken_at g.row.W c.args.a.now c.args.b.now c.loop-x.x-index (drop c.loop-x.j c.args.b.now) (drop c.in_ok-j.j c.args.b.now) c.loop-x.out.items c.cut_out.new.out.items
    c.loop-x-test.true c.loop-x.invariant
    (record { numbers = c.in_ok-j.ensures.numbers; above = c.in_ok-j.ensures.above; set = c.in_ok-j.ensures.set; gap = c.in_ok-j.ensures.last })
