use Rattle.std.proofs.Common.{◌∙◌, ◌++◌, ◌∷◌, [], ap, codes, sym}
use Rattle.std.proofs.lemmas.List.{append-nil}
use Rattle.std.proofs.lemmas.Result.{on_ok_weaker}
use Rattle.dump_grammar.specs.Lines.{bare}
use Rattle.dump_print.specs.Helpers.{return_lines, verdict_text}
use Rattle.dump_print.specs.Parts.{option_words, rule_words}
use Rattle.dump_print.specs.Spelling.{spaced}
use Rattle.dump_print.proofs.LineLemmas.{lines_grown, lines_one, rule_line}
use Rattle.dump_print.proofs.helpers.append_helper.Goals as goal

pub returns : goal.returns
returns g c =
    let chain = c.args.chain.now in
    let verdict = verdict_text c.args.rule.now.accept in
    let begun = c.append_start.new.out.items in
    let returned = c.append_returns.new.out.items in
    on_ok_weaker c.append_end.result
    (λ h. lines_grown (return_lines chain c.args.rule.now.cube) (rule_words chain [] verdict ∷ []) _ _ _ c.in_ok-append_returns.ensures
    (rule_line chain verdict [] returned begun begun _ c.in_ok-append_start.ensures (sym (append-nil begun))
    (h ∙ ap (λ t. begun ++ (spaced (option_words (codes "-j") (bare t)) ++ 10 ∷ [])) c.verdict_text.ensures)
    ∙ ap (λ t. returned ++ t) (sym (lines_one (rule_words chain [] verdict)))))
    c.append_end.ensures
