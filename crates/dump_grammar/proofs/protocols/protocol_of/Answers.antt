use Rattle.std.proofs.Common.{ap}
use Rattle.dump_grammar.specs.GroupWords.{group_of}
use Rattle.dump_grammar.specs.Lines.{texts, words_of}
use Rattle.dump_grammar.proofs.GroupLemmas.{if_none}
use Rattle.dump_grammar.proofs.ProtocolOnce.{no_protocol_here}
use Rattle.dump_grammar.proofs.protocols.protocol_of.Goals as goal

pub returns-clause-none : goal.returns-clause-none
returns-clause-none c =
    if_none c.protocol_with_ports.result _ _ c.protocol_with_ports.ensures.none
    (no_protocol_here (group_of c.args.group) c.in-Base.negated c.in-Base.option.now (texts (words_of c.in-Base.arguments.now)) c.in-Some.name.now (ap group_of c.in-Base.is) c.in-Some.ensures.some)
