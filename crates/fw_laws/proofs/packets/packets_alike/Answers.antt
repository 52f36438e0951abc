use Rattle.fw_laws.proofs.TwoPackets.{same_walk, same_answers}
use Rattle.fw_laws.proofs.packets.packets_alike.Goals as goal

pub returns : goal.returns
returns g c = record {
  walk = same_walk g.P.Primitive.meaning c.args.dump.now c.args.chain c.args.p.now c.args.q.now;
  answers = same_answers g.P.Primitive.meaning c.args.dump.now c.args.chain c.args.p.now c.args.q.now;
}
