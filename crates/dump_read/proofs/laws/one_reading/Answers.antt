use Rattle.dump_grammar.proofs.PolicyLemmas.{one_chain_line}
use Rattle.dump_read.proofs.Readers.{one_rule}
use Rattle.dump_read.proofs.AnswerLemmas.{one_answer_of}
use Rattle.dump_read.proofs.laws.one_reading.Goals as goal

pub returns : goal.returns
returns g c = one_answer_of g.row.W g.F.Family.Reads one_chain_line (one_rule g.row.W g.F.Family.Reads (record { one = g.met.F.Family.one; plain = g.met.F.Family.plain; not_number = g.met.F.Family.not_number }) c.requires) c.args.text.now
