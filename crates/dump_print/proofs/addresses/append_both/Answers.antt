use Rattle.std.proofs.Common.{codes}
use Rattle.std.proofs.lemmas.Result.{on_ok_weaker}
use Rattle.dump_print.specs.Addresses.{range_words}
use Rattle.dump_print.proofs.SpacedLemmas.{spaced_grown}
use Rattle.dump_print.proofs.addresses.append_both.Goals as goal

pub returns : goal.returns
returns g c =
    on_ok_weaker c.append_range-2.result
    (λ h. spaced_grown (range_words g.F.Family.text_of g.row.W (codes "--src-range") c.args.source) (range_words g.F.Family.text_of g.row.W (codes "--dst-range") c.args.destination)
    _ _ _ c.in_ok-append_range.ensures h)
    c.append_range-2.ensures
