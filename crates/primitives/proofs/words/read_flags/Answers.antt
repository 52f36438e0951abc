use Rattle.std.proofs.Common.{sym, ◌∙◌}
use Rattle.primitives.proofs.ListLemmas.{none_spelled, other_text}
use Rattle.primitives.proofs.words.read_flags.Goals as goal

pub returns-clause-none : goal.returns-clause-none
returns-clause-none c =
    none_spelled c.args.text.now c.read_flag_list.result
    (λ is. other_text c.args.text.now c.as_slice.result.now c.eq.result c.eq.ensures c.if-eq.false (is ∙ sym c.as_slice.ensures))
    (λ is. other_text c.args.text.now c.as_slice-2.result.now c.eq-2.result c.eq-2.ensures c.if-eq-2.false (is ∙ sym c.as_slice-2.ensures))
    c.read_flag_list.ensures
