use Rattle.region_cut.proofs.UnderLaws.{missed_none}
use Rattle.region_cut.proofs.apart.have_none_common.Goals as goal

pub returns : goal.returns
returns g c = λ t. missed_none c.args.a.now c.args.b.now (c.are_apart.ensures t)
