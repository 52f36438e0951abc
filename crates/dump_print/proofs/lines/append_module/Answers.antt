use Rattle.std.proofs.Common.{◌∙◌, ◌++◌, ◌∷◌, [], codes, ap, sym, List}
use Rattle.std.proofs.lemmas.Result.{on_ok_weaker}
use Rattle.dump_grammar.specs.Lines.{Word, bare}
use Rattle.dump_print.specs.Parts.{own_words}
use Rattle.dump_print.specs.Ports.{ports_of}
use Rattle.dump_print.proofs.SpacedLemmas.{module_some, spaced_grown}
use Rattle.dump_print.proofs.lines.append_module.Goals as goal

pub returns : goal.returns
returns c =
    let own : List Word = own_words (ports_of c.args.line.sports) (ports_of c.args.line.dports) c.args.line.flags in
    on_ok_weaker c.append_own_words.result
    (λ h. spaced_grown (bare (codes "-m") ∷ bare c.args.name.now ∷ []) own _ _ _ c.in_ok-append_words.ensures h
    ∙ ap (λ t. c.args.out.now.items ++ t) (sym (module_some c.args.name.now own (sym c.has_own_words.ensures ∙ c.if-not-has_own_words.false))))
    c.append_own_words.ensures
