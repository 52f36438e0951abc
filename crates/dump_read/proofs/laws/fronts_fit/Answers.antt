use Rattle.dump_read.proofs.FitLemmas.{fit_front}
use Rattle.dump_read.proofs.laws.fronts_fit.Goals as goal

pub returns : goal.returns
returns g c = fit_front g.row.W g.F.Family.Reads
