use Rattle.std.proofs.Common.{arith}
use Rattle.dump_print.specs.Helpers.{return_line}
use Rattle.dump_print.specs.Names.{name_word}
use Rattle.dump_print.specs.Parts.{option_words}
use Rattle.std.proofs.Common.{codes}
use Rattle.dump_print.proofs.LineLemmas.{item_more, rule_line}
use Rattle.dump_print.proofs.helpers.append_name_returns.Goals as goal

pub loop-pattern-preserved : goal.loop-pattern-preserved
loop-pattern-preserved c =
    item_more (λ pattern. return_line c.args.chain.now c.args.option.now (name_word pattern)) _ c.loop-pattern.pattern-index c.pattern-item.result _ _ _ (omega arith)
    c.pattern-item.is c.loop-pattern.invariant
    (rule_line c.args.chain.now (codes "RETURN") (option_words c.args.option.now (name_word c.pattern-item.result)) _ _ _ _ c.in_ok-append_start.ensures
    c.in_ok-append_pattern_option.ensures c.in_ok-append_end.ensures)
