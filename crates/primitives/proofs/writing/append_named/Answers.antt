use Rattle.std.proofs.Common.{◌∙◌, ◌++◌, arith}
use Rattle.std.proofs.lemmas.Result.{on_ok_weaker}
use Rattle.primitives.proofs.RowLemmas.{named_here, named_none}
use Rattle.primitives.proofs.Growing.{extended}
use Rattle.primitives.proofs.writing.append_named.Goals as goal

pub returns-then-word-number : goal.returns-then-word-number
returns-then-word-number c =
    extended c.extend_from_slice.result _ _ _ _ _ c.extend_from_slice.ensures.items c.loop-word.invariant.0
    (named_here c.args.words.now c.loop-word.word-index c.args.number _ (omega arith) c.if-word-number.true c.loop-word.invariant.1)

pub returns : goal.returns
returns c =
    on_ok_weaker c.append_number.result
    (λ h. h ∙ (λ k. c.loop-word.invariant.0 k ++ named_none c.args.words.now c.loop-word.word-index c.args.number (omega arith) c.loop-word.invariant.1 k))
    c.append_number.ensures
