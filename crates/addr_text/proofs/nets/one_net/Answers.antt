use Rattle.addr_text.proofs.TextLemmas.{one_net_by}
use Rattle.addr_text.proofs.nets.one_net.Goals as goal

pub returns : goal.returns
returns g c =
    one_net_by g.F.Family.Reads (record { one = g.met.F.Family.one; plain = g.met.F.Family.plain; not_number = g.met.F.Family.not_number }) g.row.W c.requires
