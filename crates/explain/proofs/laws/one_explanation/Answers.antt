use Rattle.explain.proofs.Once.{explained_once}
use Rattle.explain.proofs.laws.one_explanation.Goals as goal

pub returns : goal.returns
returns g c = explained_once g.P.Primitive.meaning c.args.dump.now c.args.p.now c.args.wanted
