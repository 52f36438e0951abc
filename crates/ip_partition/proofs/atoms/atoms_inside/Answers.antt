use Rattle.std.proofs.Common.{◌∙◌}
use Rattle.ip_partition.proofs.Runs.{marked_more}
use Rattle.ip_partition.proofs.atoms.atoms_inside.Goals as goal

pub loop-range-preserved : goal.loop-range-preserved
loop-range-preserved c = record {
  count = c.mark.ensures.count ∙ c.loop-range.invariant.count;
  marked = marked_more c.args.starts.now c.args.ranges.now c.loop-range.inside.items c.mark.new.inside.items c.loop-range.range-index c.run_of-first.result.0 c.run_of-first.result.1
      c.loop-range-test.true c.loop-range.invariant.count c.run_of-first.ensures.atoms c.loop-range.invariant.marked c.mark.ensures.marked;
}
