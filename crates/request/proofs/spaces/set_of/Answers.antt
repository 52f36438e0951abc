use Rattle.std.proofs.Common.{◌∙◌}
use Rattle.request.proofs.SpaceLemmas.{next_range, no_range}
use Rattle.request.proofs.spaces.set_of.Goals as goal

pub loop-range-init : goal.loop-range-init
loop-range-init g c = c.empty-set.ensures ∙ no_range g.row.W c.requires.width

pub loop-range-preserved : goal.loop-range-preserved
loop-range-preserved g c =
    next_range g.row.W c.requires.width c.args.ranges.now c.loop-range.range-index _ c.loop-range-test.true c.loop-range.set c.in_ok-range.field-0 c.in_ok-set.set
    c.loop-range.invariant c.in_ok-range.ensures c.in_ok-set.ensures.spelled
