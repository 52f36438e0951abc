use Rattle.service_matrix.specs.Services.{Edge}
use Rattle.service_matrix.proofs.OneMatrix.{has_one}
use Rattle.service_matrix.proofs.laws.one_matrix.Goals as goal

pub returns : goal.returns
returns g c = has_one (Edge c.args.side c.args.dump.now c.args.chain c.args.service.now)
