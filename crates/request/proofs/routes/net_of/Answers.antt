use Rattle.addr_text.proofs.TextLemmas.{if_none}
use Rattle.request.proofs.RouteLemmas.{no_net}
use Rattle.request.proofs.routes.net_of.Goals as goal

pub returns-in_err-address-clause-none : goal.returns-in_err-address-clause-none
returns-in_err-address-clause-none g c =
    if_none _ (no_net g.F.Family.Reads g.row.W c.args.text.now c.in_default.ensures.none c.in_err-address.ensures.none)
