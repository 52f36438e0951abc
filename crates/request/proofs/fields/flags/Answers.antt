use Rattle.std.proofs.Common.{◌∙◌, ap}
use Rattle.primitives.specs.Words.{SpellsFlags}
use Rattle.request.proofs.FieldLemmas.{not_said, texts_in}
use Rattle.request.proofs.SmallWords.{flags_of_value}
use Rattle.request.proofs.fields.flags.Goals as goal

pub returns-in-Some-clause-small : goal.returns-in-Some-clause-small
returns-in-Some-clause-small c = flags_of_value c.in-Some.value.now _ _ _ c.read_flags.ensures.some c.ok_or.ensures.value

pub returns-in-Some-clause-usage : goal.returns-in-Some-clause-usage
returns-in-Some-clause-usage c = not_said SpellsFlags 0 _ c.in-Some.value.now _ _ _ (c.in_ok-value.ensures.one ∙ ap texts_in c.in-Some.is) c.read_flags.ensures.none c.ok_or.ensures.value
