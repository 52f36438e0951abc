use Rattle.fw_text.proofs.RangeLemmas.{first_appended}
use Rattle.fw_text.proofs.ranges.append_ranges.Goals as goal

pub loop-range-init : goal.loop-range-init
loop-range-init g c = first_appended g.F.Family.text_of g.row.W c.args.out.now.items c.append_range.new.out.items c.args.ranges.now _ c.in-len1-up.len_at_least c.requires.1 c.in_ok-append_range.ensures
