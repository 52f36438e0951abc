use Rattle.fw_laws.proofs.Mapping.{same_stays, shape_stays, settled_stays, room_stays, calls_stay, policies_stay}
use Rattle.fw_laws.proofs.mapped.mapping_keeps_the_rest.Goals as goal

pub returns : goal.returns
returns g c = record {
  same = same_stays c.args.dump.now;
  shape = shape_stays c.args.dump.now;
  settled = settled_stays c.args.dump.now;
  room = room_stays c.args.dump.now;
  calls = calls_stay c.args.dump.now;
  policies = policies_stay c.args.dump.now;
}
