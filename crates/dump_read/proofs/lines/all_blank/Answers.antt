use Rattle.dump_read.proofs.ByteLemmas.{blank_of, blank_rest, empty_tested, tested_empty}
use Rattle.dump_read.proofs.lines.all_blank.Goals as goal

pub returns : goal.returns
returns c =
    let rest = c.without_blanks.result.now in (
      λ t. blank_of c.args.line.now rest c.without_blanks.ensures (empty_tested rest c.is_empty.result c.is_empty.ensures t),
      λ h. tested_empty rest c.is_empty.result c.is_empty.ensures (blank_rest c.args.line.now rest c.without_blanks.ensures h),
    )
