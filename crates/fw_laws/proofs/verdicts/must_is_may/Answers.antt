use Rattle.fw_laws.proofs.Deciding as laws
use Rattle.fw_laws.proofs.verdicts.must_is_may.Goals as goal

pub returns : goal.returns
returns g c = laws.must_is_may g.P.Primitive.meaning c.args.dump.now c.args.chain c.args.p.now
