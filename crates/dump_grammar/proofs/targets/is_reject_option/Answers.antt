use Rattle.std.proofs.Common.{refl, rules}
use Rattle.dump_grammar.proofs.TargetLemmas.{reject_option}
use Rattle.dump_grammar.proofs.targets.is_reject_option.Goals as goal

pub returns : goal.returns
returns c = (
  λ t. reject_option _ _ _ _ _ c.is_empty.result c.in-Some.ensures.some c.in-Some-first_word.ensures.some (c.is_bare.ensures.0 (search rules)) c.is_empty.ensures (search rules),
  λ o. refl,
)
