use Rattle.std.proofs.Common.{◌∙◌, ap}
use Rattle.primitives.specs.Words.{SpellsProto}
use Rattle.request.proofs.FieldLemmas.{not_said, texts_in}
use Rattle.request.proofs.fields.protocol.Goals as goal

pub returns-in-Some-clause-usage : goal.returns-in-Some-clause-usage
returns-in-Some-clause-usage c = not_said SpellsProto 0 _ c.in-Some.value.now _ _ _ (c.in_ok-value.ensures.one ∙ ap texts_in c.in-Some.is) c.read_proto.ensures.none c.ok_or.ensures.value
