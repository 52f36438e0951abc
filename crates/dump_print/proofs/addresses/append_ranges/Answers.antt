use Rattle.std.proofs.Common.{◌∙◌, ◌++◌, ◌∷◌, [], codes, ap, sym}
use Rattle.std.proofs.lemmas.Result.{on_ok_weaker}
use Rattle.dump_grammar.specs.Lines.{bare}
use Rattle.dump_print.specs.Parts.{both_words}
use Rattle.dump_print.proofs.SpacedLemmas.{module_some, spaced_grown}
use Rattle.dump_print.proofs.addresses.append_ranges.Goals as goal

pub returns : goal.returns
returns g c =
    let both = both_words g.F.Family.text_of g.row.W c.args.source c.args.destination in
    on_ok_weaker c.append_both.result
    (λ h. spaced_grown (bare (codes "-m") ∷ bare (codes "iprange") ∷ []) both _ _ _ c.in_ok-append_words.ensures h
    ∙ ap (λ t. c.args.out.now.items ++ t) (sym (module_some (codes "iprange") both (sym c.has_ranges.ensures ∙ c.if-not-has_ranges.false))))
    c.append_both.ensures
