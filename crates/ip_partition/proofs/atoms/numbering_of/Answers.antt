use Rattle.std.proofs.Common.{◌∙◌}
use Rattle.ip_partition.proofs.Alike.{one_set_more}
use Rattle.ip_partition.proofs.atoms.numbering_of.Goals as goal

pub loop-set-preserved : goal.loop-set-preserved
loop-set-preserved g c =
    one_set_more c.args.starts.now c.args.sets.now c.loop-set.set-index c.set-item.result c.ranges-in-loop-set.result.now c.loop-set.numbering.leaders.items c.loop-set.numbering.lasts.items
    c.in_ok-numbering.numbering.leaders.items c.in_ok-numbering.numbering.lasts.items c.loop-set-test.true (c.ranges-in-loop-set.ensures.same ∙ c.set-item.is) c.loop-set.invariant
    c.in_ok-numbering.ensures.leaders c.in_ok-numbering.ensures.lasts c.in_ok-numbering.ensures.split
