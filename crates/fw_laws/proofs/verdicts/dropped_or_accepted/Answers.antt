use Rattle.fw_laws.proofs.Deciding.{never_is_dropped, must_is_never_dropped}
use Rattle.fw_laws.proofs.verdicts.dropped_or_accepted.Goals as goal

pub returns : goal.returns
returns g c = record {
  never = never_is_dropped g.P.Primitive.meaning c.args.dump.now c.args.chain c.args.p.now c.requires;
  must = must_is_never_dropped g.P.Primitive.meaning c.args.dump.now c.args.chain c.args.p.now c.requires;
}
