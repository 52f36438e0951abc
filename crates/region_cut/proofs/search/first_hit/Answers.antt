use Rattle.std.proofs.lemmas.Result.{IfOk-weaker}
use Rattle.region_cut.proofs.PacketLaws.{tells}
use Rattle.region_cut.proofs.search.first_hit.Goals as goal

pub returns-clause-tells : goal.returns-clause-tells
returns-clause-tells g c = IfOk-weaker c.found.result _ _ (tells c.args.region.now c.args.rules.now c.args.policy) c.found.ensures.finds
