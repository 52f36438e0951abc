use Rattle.fw_laws.proofs.Deciding.{has_one_verdict}
use Rattle.fw_laws.proofs.verdicts.exactly_one_verdict.Goals as goal

pub returns : goal.returns
returns g c = has_one_verdict g.P.Primitive.meaning c.args.dump.now c.args.chain c.args.p.now c.requires
