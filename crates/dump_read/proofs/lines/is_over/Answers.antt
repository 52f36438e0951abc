use Rattle.std.proofs.Common.{drop}
use Rattle.dump_read.proofs.ByteLemmas.{over_some, over_none, first_got, none_got}
use Rattle.dump_read.proofs.lines.is_over.Goals as goal

pub returns-in-Some : goal.returns-in-Some
returns-in-Some c =
    let rest = c.without_blanks.result.now in
    let told = c.in-Some.ensures.item in
    over_some c.args.line.now rest c.in-Some.b.now (drop 1 rest) c.without_blanks.ensures (first_got rest c.in-Some.b.now told.3.0 told.1)

pub returns-in-None : goal.returns-in-None
returns-in-None c =
    let rest = c.without_blanks.result.now in
    over_none c.args.line.now rest c.without_blanks.ensures (none_got rest c.in-None.ensures.item.3)
