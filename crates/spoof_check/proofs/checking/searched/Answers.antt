use Rattle.std.proofs.Common.{None, Option, Some, subst}
use Rattle.primitives.specs.declared.prim.Packet.{Packet}
use Rattle.region_cut.specs.Search.{Tells}
use Rattle.spoof_check.specs.Verdicts.{forged_region}
use Rattle.spoof_check.proofs.ForgedLemmas.{told}
use Rattle.spoof_check.proofs.checking.searched.Goals as goal

pub returns-in-Ok-Some-clause-said : goal.returns-in-Ok-Some-clause-said
returns-in-Ok-Some-clause-said g c =
    let P : Option Packet → Type 0 = λ o. Tells (forged_region {W = g.row.W} c.args.name.now c.args.inside.now) c.args.rules.now c.args.policy o in
    told c.args.rules.now c.args.policy c.args.name.now c.args.inside.now (Some c.in-Ok-Some.packet) (subst P c.in-Ok-Some.field-0-is c.in-Ok-Some.ensures.tells)

pub returns-in-Ok-None-clause-said : goal.returns-in-Ok-None-clause-said
returns-in-Ok-None-clause-said g c =
    let P : Option Packet → Type 0 = λ o. Tells (forged_region {W = g.row.W} c.args.name.now c.args.inside.now) c.args.rules.now c.args.policy o in
    told c.args.rules.now c.args.policy c.args.name.now c.args.inside.now None (subst P c.in-Ok-None.field-0-is c.in-Ok-None.ensures.tells)
