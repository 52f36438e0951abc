use Rattle.dump_token.proofs.Once.{one_list, not_both}
use Rattle.dump_token.proofs.law.one_reading.Goals as goal

pub returns-clause-one : goal.returns-clause-one
returns-clause-one c = λ a b p q. one_list 0 a b c.args.line.now p q

pub returns-clause-either : goal.returns-clause-either
returns-clause-either c = λ a b p q. not_both 0 a b c.args.line.now p q
