use Rattle.dump_grammar.proofs.PolicyLemmas.{one_chain_line}
use Rattle.dump_read.proofs.Readers.{one_rule}
use Rattle.dump_read.proofs.ReadingLemmas.{one_dump_of, one_malformed_of, one_undefined_of}
use Rattle.dump_read.proofs.laws.one_answer.Goals as goal

pub returns-clause-dump : goal.returns-clause-dump
returns-clause-dump g c = one_dump_of g.row.W g.F.Family.Reads one_chain_line (one_rule g.row.W g.F.Family.Reads (record { one = g.met.F.Family.one; plain = g.met.F.Family.plain; not_number = g.met.F.Family.not_number }) c.requires) c.args.text.now

pub returns-clause-malformed : goal.returns-clause-malformed
returns-clause-malformed g c = one_malformed_of g.row.W g.F.Family.Reads one_chain_line (one_rule g.row.W g.F.Family.Reads (record { one = g.met.F.Family.one; plain = g.met.F.Family.plain; not_number = g.met.F.Family.not_number }) c.requires) c.args.text.now

pub returns-clause-undefined : goal.returns-clause-undefined
returns-clause-undefined g c = one_undefined_of g.row.W g.F.Family.Reads one_chain_line (one_rule g.row.W g.F.Family.Reads (record { one = g.met.F.Family.one; plain = g.met.F.Family.plain; not_number = g.met.F.Family.not_number }) c.requires) c.args.text.now
