use Rattle.std.proofs.Common.{◌∙◌, ap, sym, subst, drop}
use Rattle.std.specs.List.{prefix_len}
use Rattle.dump_token.specs.Words.{is_blank, BeginsNoBlank}
use Rattle.dump_token.proofs.Steps.{gap_ends, found_after, none_after, open_after}
use Rattle.dump_token.proofs.token.next_word.Goals as goal

pub word_at-requires-clause-first : goal.word_at-requires-clause-first
word_at-requires-clause-first c =
    subst BeginsNoBlank (sym c.after.ensures) (gap_ends c.after-rest.result.now c.blanks-gap.result c.blanks-gap.ensures.count)

pub returns-clause-found : goal.returns-clause-found
returns-clause-found c =
    found_after (drop c.args.at c.args.line.now) c.after.result.now c.args.at c.blanks-gap.result
    (c.blanks-gap.ensures.count ∙ ap (prefix_len is_blank) c.after-rest.ensures) (c.after.ensures ∙ ap (drop c.blanks-gap.result) c.after-rest.ensures)
    c.word_at.result c.word_at.ensures.found

pub returns-clause-none : goal.returns-clause-none
returns-clause-none c =
    none_after (drop c.args.at c.args.line.now) c.after.result.now c.blanks-gap.result
    (c.blanks-gap.ensures.count ∙ ap (prefix_len is_blank) c.after-rest.ensures) (c.after.ensures ∙ ap (drop c.blanks-gap.result) c.after-rest.ensures)
    c.word_at.result c.word_at.ensures.none

pub returns-clause-open : goal.returns-clause-open
returns-clause-open c =
    open_after (drop c.args.at c.args.line.now) c.after.result.now c.blanks-gap.result
    (c.blanks-gap.ensures.count ∙ ap (prefix_len is_blank) c.after-rest.ensures) (c.after.ensures ∙ ap (drop c.blanks-gap.result) c.after-rest.ensures)
    c.word_at.result c.word_at.ensures.open
