use Rattle.addr_text.proofs.TextLemmas.{one_range_by}
use Rattle.addr_text.proofs.nets.one_range.Goals as goal

pub returns : goal.returns
returns g c =
    one_range_by g.F.Family.Reads (record { one = g.met.F.Family.one; plain = g.met.F.Family.plain; not_number = g.met.F.Family.not_number })
