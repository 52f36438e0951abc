use Rattle.std.proofs.Common.{◌∙◌, sym}
use Rattle.fffuu_run.proofs.AskedLemmas.{chain_is, has_policy}
use Rattle.fffuu_run.proofs.questions.asked_policy.Goals as goal

pub unreachable-requires : goal.unreachable-requires
unreachable-requires g c =
    has_policy c.args.dump.now c.args.name.now c.args.chain c.requires (sym c.policy_of.ensures ∙ c.in-None.is)

pub returns-clause-chain : goal.returns-clause-chain
returns-clause-chain g c =
    chain_is c.args.dump.now c.args.name.now c.args.chain c.requires c.in-Some.policy (sym c.policy_of.ensures ∙ c.in-Some.is)
