use Rattle.std.proofs.Common.{◌<◌, ◌-◌, length, arith}
use Rattle.std.proofs.lemmas.Result.{err_from_is_err_and}
use Rattle.dump_token.proofs.Steps.{after_first, read_more, read_all, read_open, read_no_words}
use Rattle.dump_token.proofs.token.tokens.Goals as goal

pub returns-in_err-word-clause-open : goal.returns-in_err-word-clause-open
returns-in_err-word-clause-open c =
    let told = read_open c.args.line.now c.loop-words.words.items c.loop-words.at c.loop-words.invariant c.in_err-word.field-0.0 c.in_err-word.ensures.open in
    let p = err_from_is_err_and c.from_residual.result c.from_residual.ensures.1 in rw (p.1, p.2) told

pub returns-in_err-word-clause-none : goal.returns-in_err-word-clause-none
returns-in_err-word-clause-none c =
    let told = read_no_words c.args.line.now c.loop-words.words.items c.loop-words.at c.loop-words.invariant c.in_err-word.field-0.0 c.in_err-word.ensures.open in
    let p = err_from_is_err_and c.from_residual.result c.from_residual.ensures.1 in rw (p.1, p.2) told

pub loop-words-smaller : goal.loop-words-smaller
loop-words-smaller c =
    let found = rw c.in-Some.is at c.in_ok-word.ensures.found in
    let facts = after_first c.args.line.now found.0 c.loop-words.at c.in-Some.word c.loop-words.invariant.inside found.1 in
    let nearer : length c.args.line.now - c.in-Some.word.end < length c.args.line.now - c.loop-words.at = omega (arith, facts.0, facts.1) in
    nearer

pub loop-words-preserved : goal.loop-words-preserved
loop-words-preserved c =
    let found = rw c.in-Some.is at c.in_ok-word.ensures.found in
    rw c.in_ok-push.ensures.items
    (read_more c.args.line.now found.0 c.loop-words.words.items c.loop-words.at c.in-Some.word c.loop-words.invariant found.1)

pub returns-clause-words : goal.returns-clause-words
returns-clause-words c =
    let blanks = rw c.in_default.is at c.in_ok-word.ensures.none in
    rw c.of.ensures (read_all c.args.line.now c.loop-words.words.items c.loop-words.at c.loop-words.invariant blanks)
