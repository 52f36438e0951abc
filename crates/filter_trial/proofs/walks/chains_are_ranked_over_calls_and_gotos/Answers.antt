use Rattle.std.proofs.Common.{rules}
use Rattle.filter_trial.proofs.walks.chains_are_ranked_over_calls_and_gotos.Goals as goal

pub check-requires-clause-named : goal.check-requires-clause-named
check-requires-clause-named g c = (c.calls_name_chains.ensures).0 (search rules)
