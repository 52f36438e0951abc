use Rattle.dump_read.proofs.AnswerLemmas.{early_stays}
use Rattle.dump_read.proofs.laws.early_faults_stay.Goals as goal

pub returns : goal.returns
returns g c = early_stays g.row.W g.F.Family.Reads
