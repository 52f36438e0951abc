use Rattle.std.proofs.Common.{rules, ◌∙◌, List, ap, sym}
use Rattle.dump_grammar.specs.Lines.{Text}
use Rattle.dump_grammar.specs.Targets.{user_chain}
use Rattle.dump_grammar.proofs.TargetLemmas.{goto_target}
use Rattle.dump_grammar.proofs.reading.rule_target.Goals as goal

pub returns-then-is_empty-clause-some : goal.returns-then-is_empty-clause-some
returns-then-is_empty-clause-some g c =
    goto_target g.chains _ _ _ _ _ c.is_empty.result c.user_number-number.result _ c.in-Some.ensures.some c.in-Some-first_word.ensures.some (c.is_bare-2.ensures.0 (search rules))
    c.is_empty.ensures c.if-is_empty.true
    (ap (λ (ns : List Text). user_chain ns (c.in-Some-first_word.name.now).text) c.requires ∙ ap (λ (t : Text). user_chain c.args.names.now t) (sym c.as_slice.ensures) ∙ sym c.user_number-number.ensures)
    c.goto.ensures.some c.goto.ensures.none
