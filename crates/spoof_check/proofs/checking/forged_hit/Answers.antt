use Rattle.std.proofs.Common.{IfErr, IfOk, subst}
use Rattle.box_norm.specs.declared.cube.Cube.{Cube}
use Rattle.region_cut.specs.Search.{Finds, RefusesSearch, Tells, with_policy}
use Rattle.spoof_check.proofs.checking.forged_hit.Goals as goal

pub returns-clause-tells : goal.returns-clause-tells
returns-clause-tells g c = subst (λ (region : Cube g.row.W). IfOk c.first_hit.result (Tells region c.args.rules.now c.args.policy)) c.in_ok-region.ensures c.first_hit.ensures.tells

pub returns-clause-finds : goal.returns-clause-finds
returns-clause-finds g c = subst (λ (region : Cube g.row.W). IfOk c.first_hit.result (Finds region (with_policy c.args.rules.now c.args.policy))) c.in_ok-region.ensures c.first_hit.ensures.finds

pub returns-clause-refused : goal.returns-clause-refused
returns-clause-refused g c = subst (λ (region : Cube g.row.W). IfErr c.first_hit.result (RefusesSearch region (with_policy c.args.rules.now c.args.policy))) c.in_ok-region.ensures c.first_hit.ensures.refused
