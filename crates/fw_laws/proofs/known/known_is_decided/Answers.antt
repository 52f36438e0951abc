use Rattle.fw_laws.proofs.Asked.{has_one_walk, walk_is_may, walk_is_must}
use Rattle.fw_laws.proofs.known.known_is_decided.Goals as goal

pub returns : goal.returns
returns g c = record {
  walk = has_one_walk g.P.Primitive.meaning c.args.dump.now c.args.chain c.args.p.now c.requires;
  may = walk_is_may g.P.Primitive.meaning c.args.dump.now c.args.chain c.args.p.now c.requires;
  must = walk_is_must g.P.Primitive.meaning c.args.dump.now c.args.chain c.args.p.now c.requires;
}
