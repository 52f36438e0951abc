use Rattle.std.proofs.Common.{arith, codes, get_or}
use Rattle.dump_grammar.specs.Lines.{bare}
use Rattle.dump_print.specs.Helpers.{return_line}
use Rattle.dump_print.specs.Parts.{option_words}
use Rattle.dump_print.specs.Numbers.{protocol_text}
use Rattle.dump_print.proofs.LineLemmas.{line_more, rule_line}
use Rattle.dump_print.proofs.helpers.append_protocol_returns.Goals as goal

pub loop-number-preserved : goal.loop-number-preserved
loop-number-preserved c =
    line_more (λ n. return_line c.args.chain.now (codes "-p") (bare (protocol_text n))) c.args.numbers.now c.loop-number.number-index _ _ _ _ (omega arith)
    c.loop-number.invariant
    (rule_line c.args.chain.now (codes "RETURN") (option_words (codes "-p") (bare (protocol_text (get_or c.args.numbers.now c.loop-number.number-index 0)))) _ _ _ _
    c.in_ok-append_start.ensures c.in_ok-append_protocol.ensures c.in_ok-append_end.ensures)
