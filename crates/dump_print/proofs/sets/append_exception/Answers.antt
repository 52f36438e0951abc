use Rattle.std.proofs.Common.{◌∷◌, [], codes, arith}
use Rattle.dump_grammar.specs.Lines.{bare}
use Rattle.dump_print.specs.Names.{name_word}
use Rattle.dump_print.specs.Parts.{negated_words, option_words}
use Rattle.dump_print.proofs.SpacedLemmas.{spaced_grown, spaced_more}
use Rattle.dump_print.proofs.sets.append_exception.Goals as goal

pub loop-pattern-preserved : goal.loop-pattern-preserved
loop-pattern-preserved c =
    spaced_more (λ p. negated_words c.args.option.now (name_word p)) _ c.loop-pattern.pattern-index c.pattern-item.result _ _ _ (omega arith) c.pattern-item.is
    c.loop-pattern.invariant
    (spaced_grown (bare (codes "!") ∷ []) (option_words c.args.option.now (name_word c.pattern-item.result)) _ _ _ c.in_ok-append_word.ensures c.in_ok-append_pattern_option.ensures)
