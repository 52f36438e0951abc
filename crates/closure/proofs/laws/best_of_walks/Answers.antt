use Rattle.closure.proofs.Best.{says_best}
use Rattle.closure.proofs.laws.best_of_walks.Goals as goal

pub returns : goal.returns
returns g c p = says_best g.P.Primitive.meaning c.args.dump.now c.args.chain c.args.depth c.requires.settled c.requires.within c.args.side p
