use Rattle.std.proofs.Common.{◌∷◌, [], codes}
use Rattle.std.proofs.lemmas.Result.{on_ok_weaker}
use Rattle.primitives.specs.Words.{flags_text}
use Rattle.dump_grammar.specs.Lines.{Word, bare}
use Rattle.dump_print.proofs.SpacedLemmas.{spaced_grown, spaced_word}
use Rattle.dump_print.proofs.lines.append_mask.Goals as goal

pub returns : goal.returns
returns c =
    let mask : Word = bare (flags_text c.args.cube.mask) in
    let comp : Word = bare (flags_text c.args.cube.comp) in
    on_ok_weaker c.append_flags-2.result
    (λ h. spaced_grown (bare (codes "--tcp-flags") ∷ []) (mask ∷ comp ∷ []) _ _ _ c.in_ok-append_word.ensures
    (spaced_grown (mask ∷ []) (comp ∷ []) _ _ _ (spaced_word mask _ _ _ c.in_ok-push.ensures.items c.in_ok-append_flags.ensures)
    (spaced_word comp _ _ _ c.in_ok-push-2.ensures.items h)))
    c.append_flags-2.ensures
