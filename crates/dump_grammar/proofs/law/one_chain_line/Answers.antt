use Rattle.dump_grammar.specs.Lines.{words_of}
use Rattle.dump_grammar.proofs.PolicyLemmas.{one_chain_line}
use Rattle.dump_grammar.proofs.law.one_chain_line.Goals as goal

pub returns : goal.returns
returns c = one_chain_line (words_of c.args.words.now)
