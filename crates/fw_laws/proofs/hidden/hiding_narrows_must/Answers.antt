use Rattle.fw_laws.proofs.Hiding.{must_narrows}
use Rattle.fw_laws.proofs.hidden.hiding_narrows_must.Goals as goal

pub returns : goal.returns
returns g c = must_narrows c.args.dump.now g.P.Primitive.meaning c.args.chain c.args.p.now c.requires
