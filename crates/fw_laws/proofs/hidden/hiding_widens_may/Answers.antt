use Rattle.fw_laws.proofs.Hiding.{verdicts_stay, may_widens}
use Rattle.fw_laws.proofs.hidden.hiding_widens_may.Goals as goal

pub returns : goal.returns
returns g c = record {
  verdicts = verdicts_stay c.args.dump.now g.P.Primitive.meaning c.args.chain c.args.p.now;
  may = may_widens c.args.dump.now g.P.Primitive.meaning c.args.chain c.args.p.now;
}
