use Rattle.std.proofs.Common.{None}
use Rattle.dump_grammar.specs.Lines.{words_of}
use Rattle.dump_grammar.proofs.LawLemmas.{one_division_of}
use Rattle.dump_grammar.proofs.law.one_division.Goals as goal

pub returns : goal.returns
returns c = one_division_of None (words_of c.args.words.now)
