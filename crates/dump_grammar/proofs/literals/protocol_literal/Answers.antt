use Rattle.std.proofs.Common.{rules}
use Rattle.dump_grammar.specs.Groups.{Base}
use Rattle.dump_grammar.specs.Lines.{texts, words_of}
use Rattle.dump_grammar.specs.Literals.{text_of}
use Rattle.dump_grammar.proofs.ProtocolLemmas.{never_negated}
use Rattle.dump_grammar.proofs.literals.protocol_literal.Goals as goal

pub returns-then-negated-clause-none : goal.returns-then-negated-clause-none
returns-then-negated-clause-none g c l is =
    never_negated g.row.W c.args.text.now c.args.negated (text_of (Base c.args.negated c.args.option.now (texts (words_of c.args.arguments.now)))) l
    (c.is_every_protocol.ensures.0 (search rules)) c.if-negated.true is
