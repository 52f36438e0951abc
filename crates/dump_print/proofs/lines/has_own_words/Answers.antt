use Rattle.std.proofs.Common.{◌∙◌, codes, sym}
use Rattle.dump_print.specs.Parts.{single_words}
use Rattle.dump_print.specs.Ports.{ports_of}
use Rattle.dump_print.proofs.SpacedLemmas.{has_first, has_later}
use Rattle.dump_print.proofs.lines.has_own_words.Goals as goal

pub returns-then-is_single : goal.returns-then-is_single
returns-then-is_single c =
    sym (has_first (single_words (codes "--sport") (ports_of c.args.line.sports)) _ (sym (c.is_single.ensures (codes "--sport")) ∙ c.if-is_single.true))

pub returns-then-is_single-2 : goal.returns-then-is_single-2
returns-then-is_single-2 c =
    sym (has_later (single_words (codes "--sport") (ports_of c.args.line.sports)) _ (sym (c.is_single.ensures (codes "--sport")) ∙ c.if-is_single.false)
    ∙ has_first (single_words (codes "--dport") (ports_of c.args.line.dports)) _ (sym (c.is_single-2.ensures (codes "--dport")) ∙ c.if-is_single-2.true))

pub returns : goal.returns
returns c =
    c.has_flag_words.ensures
    ∙ sym (has_later (single_words (codes "--sport") (ports_of c.args.line.sports)) _ (sym (c.is_single.ensures (codes "--sport")) ∙ c.if-is_single.false)
    ∙ has_later (single_words (codes "--dport") (ports_of c.args.line.dports)) _ (sym (c.is_single-2.ensures (codes "--dport")) ∙ c.if-is_single-2.false))
