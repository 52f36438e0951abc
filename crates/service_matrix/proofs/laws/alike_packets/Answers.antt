use Rattle.service_matrix.proofs.Alike.{answered_alike}
use Rattle.service_matrix.proofs.laws.alike_packets.Goals as goal

pub returns : goal.returns
returns g c = answered_alike c.args.dump.now c.args.chain c.args.p.now c.args.q.now
