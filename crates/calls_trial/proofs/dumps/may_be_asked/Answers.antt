use Rattle.std.proofs.Common.{rules}
use Rattle.calls_trial.proofs.dumps.may_be_asked.Goals as goal

pub returns-clause-named : goal.returns-clause-named
returns-clause-named c = c.calls_name_chains.ensures.0 (search rules)
