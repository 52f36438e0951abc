use Rattle.std.proofs.Common.{◌++◌, codes, List}
use Rattle.std.proofs.lemmas.Result.{on_ok_weaker}
use Rattle.dump_grammar.specs.Lines.{Word}
use Rattle.dump_print.specs.Parts.{flags_words, single_words}
use Rattle.dump_print.specs.Ports.{ports_of}
use Rattle.dump_print.proofs.SpacedLemmas.{spaced_grown}
use Rattle.dump_print.proofs.lines.append_own_words.Goals as goal

pub returns : goal.returns
returns c =
    let source : List Word = single_words (codes "--sport") (ports_of c.args.line.sports) in
    let destination : List Word = single_words (codes "--dport") (ports_of c.args.line.dports) in
    let flags : List Word = flags_words c.args.line.flags in
    on_ok_weaker c.append_flag_words.result
    (λ h. spaced_grown source (destination ++ flags) _ _ _ c.in_ok-append_single.ensures
    (spaced_grown destination flags _ _ _ c.in_ok-append_single-2.ensures h))
    c.append_flag_words.ensures
