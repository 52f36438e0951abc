use Rattle.fw_laws.proofs.Twice as laws
use Rattle.fw_laws.proofs.places.no_place_twice.Goals as goal

pub returns : goal.returns
returns g c = laws.no_place_twice g.P.Primitive.meaning c.args.dump.now c.args.p.now
