use Rattle.fw_laws.proofs.Asked as laws
use Rattle.fw_laws.proofs.places.others_dont_matter.Goals as goal

pub returns : goal.returns
returns g c = laws.others_dont_matter g.P.Primitive.meaning c.args.dump.now c.args.p.now
