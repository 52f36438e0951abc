use Rattle.dump_grammar.specs.Lines.{texts, words_of}
use Rattle.dump_grammar.proofs.SayingLemmas.{range_none}
use Rattle.dump_grammar.proofs.saying.address_range.Goals as goal

pub returns-in_default-read_range-clause-none : goal.returns-in_default-read_range-clause-none
returns-in_default-read_range-clause-none g c =
    range_none g.F.Family.Reads (texts (words_of c.args.arguments.now)) c.in-Some.text.now c.in-Some.ensures.some c.in_default-read_range.ensures.none
