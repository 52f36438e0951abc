use Rattle.std.proofs.Common.{◌∷◌, [], codes}
use Rattle.std.proofs.lemmas.Result.{on_ok_weaker}
use Rattle.primitives.specs.Tables.{name_list, state_names}
use Rattle.dump_grammar.specs.Lines.{Word, bare}
use Rattle.dump_print.specs.Parts.{option_words}
use Rattle.dump_print.proofs.SpacedLemmas.{spaced_grown, spaced_word}
use Rattle.dump_print.proofs.lines.append_state_option.Goals as goal

pub returns : goal.returns
returns c =
    let states : Word = bare (name_list state_names c.args.states) in
    on_ok_weaker c.append_states.result
    (λ h. spaced_grown (bare (codes "-m") ∷ bare (codes "conntrack") ∷ []) (option_words (codes "--ctstate") states) _ _ _ c.in_ok-append_words.ensures
    (spaced_grown (bare (codes "--ctstate") ∷ []) (states ∷ []) _ _ _ c.in_ok-append_word.ensures (spaced_word states _ _ _ c.in_ok-push.ensures.items h)))
    c.append_states.ensures
