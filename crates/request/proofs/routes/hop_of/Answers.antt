use Rattle.request.proofs.RouteLemmas.{nameless, netless, no_parting, no_via}
use Rattle.request.proofs.routes.hop_of.Goals as goal

pub returns-in_default-clause-usage : goal.returns-in_default-clause-usage
returns-in_default-clause-usage g c error = no_via g.F.Family.Reads g.row.W c.args.text.now c.value_after.result c.value_after.ensures c.in_default.is

pub returns-in_default-parted-clause-usage : goal.returns-in_default-parted-clause-usage
returns-in_default-parted-clause-usage g c error =
    no_parting g.F.Family.Reads g.row.W c.args.text.now c.value_after.result c.value_after.ensures c.in-Some.rest c.in-Some.is c.in_default-parted.ensures.none

pub returns-then-is_empty-clause-usage : goal.returns-then-is_empty-clause-usage
returns-then-is_empty-clause-usage g c error =
    nameless g.F.Family.Reads g.row.W c.args.text.now c.value_after.result c.value_after.ensures c.in-Some.rest c.in-Some.is c.in-Some-parted.net.now c.in-Some-parted.name.now
    c.in-Some-parted.ensures.some c.is_empty.result c.is_empty.ensures c.if-is_empty.true

pub returns-in_default-net_of-clause-usage : goal.returns-in_default-net_of-clause-usage
returns-in_default-net_of-clause-usage g c error =
    netless g.F.Family.Reads g.row.W c.args.text.now c.value_after.result c.value_after.ensures c.in-Some.rest c.in-Some.is c.in-Some-parted.net.now c.in-Some-parted.name.now
    c.in-Some-parted.ensures.some c.in_default-net_of.ensures.none
