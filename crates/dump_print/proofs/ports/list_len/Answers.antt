use Rattle.std.proofs.Common.{arith}
use Rattle.dump_print.proofs.PortLemmas.{list_ends, more_lists, more_weight}
use Rattle.dump_print.proofs.ports.list_len.Goals as goal

pub returns-then-total-gt15-clause-list : goal.returns-then-total-gt15-clause-list
returns-then-total-gt15-clause-list c =
    list_ends c.args.ranges.now c.loop-i.i c.loop-i.total c.weight-total.result _ c.loop-i.invariant.total c.weight-total.ensures (omega arith) (omega arith)
    c.loop-i.invariant.lists

pub loop-i-preserved : goal.loop-i-preserved
loop-i-preserved c = record {
  total = more_weight c.args.ranges.now c.loop-i.i c.loop-i.total c.weight-total.result _ c.loop-i.invariant.total c.weight-total.ensures (omega arith);
  few = omega arith;
  lists = more_lists c.args.ranges.now c.loop-i.i c.loop-i.total c.weight-total.result _ c.loop-i.invariant.total c.weight-total.ensures (omega arith) (omega arith)
      c.loop-i.invariant.lists;
}
