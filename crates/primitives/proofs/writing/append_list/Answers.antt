use Rattle.std.proofs.Common.{◌∙◌, ap, arith, sym}
use Rattle.primitives.proofs.RowLemmas.{part_added, part_passed, row_added, row_passed}
use Rattle.primitives.proofs.writing.append_list.Goals as goal
use Rattle.primitives.proofs.writing.append_list.Goals.{then-has_bit+in_ok-append_part, else-has_bit}

pub loop-word-preserved : goal.loop-word-preserved
loop-word-preserved c =
    elim c.if-has_bit.branch [
      | then-has_bit+in_ok-append_part w ↦
          let r = part_added _ _ _ c.loop-word.is_first _ _ _ (row_added c.args.words.now c.args.bits c.loop-word.word-index _ (omega arith) (sym c.has_bit.ensures ∙ w.if-has_bit.true))
          c.loop-word.invariant.1 c.loop-word.invariant.0 w.in_ok-append_part.ensures in
          (ap (λ v. v.items) w.out-is ∙ r.0, w.is_first-is ∙ r.1)
      | else-has_bit w ↦
          let r = part_passed _ _ c.loop-word.is_first _ _ (row_passed c.args.words.now c.args.bits c.loop-word.word-index _ (omega arith) (sym c.has_bit.ensures ∙ w.if-has_bit.false))
          c.loop-word.invariant.1 c.loop-word.invariant.0 in
          (ap (λ v. v.items) w.out-is ∙ r.0, w.is_first-is ∙ r.1)
    ]
