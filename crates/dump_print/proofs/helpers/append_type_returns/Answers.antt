use Rattle.std.proofs.Common.{◌++◌, List, arith, codes, get_or}
use Rattle.dump_grammar.specs.Lines.{Word}
use Rattle.dump_print.specs.declared.numbers.Numbers.{Numbers}
use Rattle.dump_print.specs.Helpers.{type_return}
use Rattle.dump_print.specs.Parts.{protocol_words, type_words}
use Rattle.dump_print.proofs.LineLemmas.{line_more, rule_line}
use Rattle.dump_print.proofs.SpacedLemmas.{spaced_grown}
use Rattle.dump_print.proofs.helpers.append_type_returns.Goals as goal

pub loop-number-preserved : goal.loop-number-preserved
loop-number-preserved c =
    let protocols : List Word = protocol_words c.args.protocols in
    let types : List Word = type_words c.args.protocols (Numbers.Only (get_or c.args.numbers.now c.loop-number.number-index 0)) in
    line_more (λ n. type_return c.args.chain.now c.args.protocols n) c.args.numbers.now c.loop-number.number-index _ _ _ _ (omega arith) c.loop-number.invariant
    (rule_line c.args.chain.now (codes "RETURN") (protocols ++ types) _ _ _ _ c.in_ok-append_start.ensures
    (spaced_grown protocols types _ _ _ c.in_ok-append_protocols.ensures c.in_ok-append_types.ensures) c.in_ok-append_end.ensures)
