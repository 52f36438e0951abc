use Rattle.std.proofs.Common.{◌++◌, List}
use Rattle.std.proofs.lemmas.Result.{on_ok_weaker}
use Rattle.dump_grammar.specs.Lines.{Word}
use Rattle.dump_print.specs.CubeLines.{base_option_words, module_option_words}
use Rattle.dump_print.specs.Views.{choice_of}
use Rattle.dump_print.proofs.LineLemmas.{rule_line}
use Rattle.dump_print.proofs.SpacedLemmas.{spaced_grown}
use Rattle.dump_print.proofs.lines.append_line.Goals as goal

pub returns : goal.returns
returns g c =
    let base : List Word = base_option_words g.F.Family.text_of g.row.W c.args.frame.now.cube.now (choice_of c.args.line) in
    let modules : List Word = module_option_words g.F.Family.text_of g.row.W c.args.frame.now.cube.now (choice_of c.args.line) in
    on_ok_weaker c.append_end.result
    (λ h. rule_line c.args.frame.now.chain.now c.args.frame.now.target.now (base ++ modules) _ _ _ _ c.in_ok-append_start.ensures
    (spaced_grown base modules _ _ _ c.in_ok-append_base_options.ensures c.in_ok-append_module_options.ensures) h)
    c.append_end.ensures
