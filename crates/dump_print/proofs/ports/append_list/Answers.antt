use Rattle.std.proofs.Common.{◌∷◌, [], codes}
use Rattle.std.proofs.lemmas.Result.{on_ok_weaker}
use Rattle.dump_grammar.specs.Lines.{bare}
use Rattle.dump_print.specs.Parts.{option_words}
use Rattle.dump_print.specs.Ports.{port_list}
use Rattle.dump_print.proofs.SpacedLemmas.{spaced_grown, spaced_word}
use Rattle.dump_print.proofs.ports.append_list.Goals as goal

pub returns : goal.returns
returns c =
    on_ok_weaker c.append_port_list.result
    (λ h. spaced_grown (bare (codes "-m") ∷ bare (codes "multiport") ∷ []) (option_words c.args.option.now (bare (port_list c.args.ranges.now))) _ _ _ c.in_ok-append_words.ensures
    (spaced_grown (bare c.args.option.now ∷ []) (bare (port_list c.args.ranges.now) ∷ []) _ _ _ c.in_ok-append_word.ensures
    (spaced_word (bare (port_list c.args.ranges.now)) _ _ _ c.in_ok-push.ensures.items h)))
    c.append_port_list.ensures
