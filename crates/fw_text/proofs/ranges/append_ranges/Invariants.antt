use Rattle.std.proofs.Common.{drop}
use Rattle.fw_text.proofs.RangeLemmas.{IsLeft}
use Rattle.fw_text.proofs.ranges.append_ranges.Given as goal

abbrev pub invariant-loop-range : goal.invariant-loop-range
invariant-loop-range g l = IsLeft g.F.Family.text_of g.row.W l.fn.out.items l.out.items l.ranges (drop l.range-index l.rest)
