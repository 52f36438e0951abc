use Rattle.std.proofs.Common.{sym, ◌∙◌}
use Rattle.std.proofs.lemmas.Option.{slice_get_within}
use Rattle.fw_rule.proofs.Ends.{has_chain}
use Rattle.closure_trial.proofs.asking.checked.Goals as goal

pub check-requires-clause-there : goal.check-requires-clause-there
check-requires-clause-there g c =
    let there = has_chain c.args.dump.now 0 c.in-Some._policy (sym c.policy_of.ensures ∙ c.in-Some.is) in
    slice_get_within (c.args.dump.now).chains 0 there.0 there.1

pub check-requires-clause-named : goal.check-requires-clause-named
check-requires-clause-named g c = c.calls_name_chains.ensures.0 c.if-not-calls_name_chains.false

pub returns-in-Ok-clause-settled : goal.returns-in-Ok-clause-settled
returns-in-Ok-clause-settled g c = c.in-Ok.ensures.settled c.in-Some._policy (sym c.policy_of.ensures ∙ c.in-Some.is)
