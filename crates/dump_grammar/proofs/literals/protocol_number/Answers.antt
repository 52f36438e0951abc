use Rattle.dump_grammar.proofs.ProtocolLemmas.{protocol_positive}
use Rattle.dump_grammar.proofs.literals.protocol_number.Goals as goal

pub invariant_of-result : goal.invariant_of-result
invariant_of-result c = protocol_positive c.args.text.now c.in-Some.number c.requires c.in-Some.ensures.some

pub returns-in-Some-clause-some : goal.returns-in-Some-clause-some
returns-in-Some-clause-some c = (c.in-Some.ensures.some, protocol_positive c.args.text.now c.in-Some.number c.requires c.in-Some.ensures.some)
