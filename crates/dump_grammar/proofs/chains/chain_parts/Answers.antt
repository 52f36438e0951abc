use Rattle.std.proofs.Common.{arith}
use Rattle.dump_grammar.proofs.PolicyLemmas.{policy_fits}
use Rattle.dump_grammar.proofs.chains.chain_parts.Goals as goal

pub returns-then-is_built_in-is_some-clause-none : goal.returns-then-is_built_in-is_some-clause-none
returns-then-is_built_in-is_some-clause-none c chain is =
    let fits = policy_fits _ _ _ _ _ _ _ chain c.in-Some.ensures.some c.in-Some-first_word.ensures.some c.in-Some-chain_name.ensures.some.0 c.in-Some-policy.ensures.some is in
    absurd (grind (arith, fits, c.is_built_in.ensures, c.is_some.ensures, c.if-is_built_in-is_some.true))
