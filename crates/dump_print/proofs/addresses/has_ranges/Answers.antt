use Rattle.std.proofs.Common.{◌∙◌, codes, sym}
use Rattle.dump_print.specs.Addresses.{range_words}
use Rattle.dump_print.proofs.SpacedLemmas.{has_first, has_later}
use Rattle.dump_print.proofs.addresses.has_ranges.Goals as goal

pub returns-then-has_range : goal.returns-then-has_range
returns-then-has_range g c =
    sym (has_first (range_words g.F.Family.text_of g.row.W (codes "--src-range") c.args.source) _ (sym (c.has_range.ensures (codes "--src-range")) ∙ c.if-has_range.true))

pub returns : goal.returns
returns g c =
    c.has_range-2.ensures (codes "--dst-range")
    ∙ sym (has_later (range_words g.F.Family.text_of g.row.W (codes "--src-range") c.args.source) _ (sym (c.has_range.ensures (codes "--src-range")) ∙ c.if-has_range.false))
