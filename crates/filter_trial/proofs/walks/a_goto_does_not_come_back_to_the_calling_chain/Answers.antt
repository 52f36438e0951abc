use Rattle.std.proofs.Common.{rules}
use Rattle.filter_trial.proofs.walks.a_goto_does_not_come_back_to_the_calling_chain.Goals as goal

pub check-requires-clause-named : goal.check-requires-clause-named
check-requires-clause-named g c = (c.calls_name_chains.ensures).0 (search rules)
