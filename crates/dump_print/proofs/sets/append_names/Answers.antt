use Rattle.std.proofs.lemmas.Result.{on_ok_weaker}
use Rattle.dump_print.specs.Parts.{base_words, except_words}
use Rattle.dump_print.proofs.SpacedLemmas.{spaced_grown}
use Rattle.dump_print.proofs.sets.append_names.Goals as goal

pub returns : goal.returns
returns c =
    on_ok_weaker c.append_exception.result
    (λ h. spaced_grown (base_words c.args.option.now c.args.names.now.base) (except_words c.args.option.now c.args.names.now) _ _ _ c.in_ok-append_base.ensures h)
    c.append_exception.ensures
