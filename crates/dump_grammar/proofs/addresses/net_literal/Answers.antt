use Rattle.opt_table.specs.Rows.{addresses_at}
use Rattle.dump_grammar.proofs.AddressLemmas.{no_net}
use Rattle.dump_grammar.proofs.addresses.net_literal.Goals as goal

pub returns-in_default-clause-none : goal.returns-in_default-clause-none
returns-in_default-clause-none g c = λ l is. no_net g.row.W g.F.Family.Reads (addresses_at c.args.side) c.args.text.now c.args.negated _ l c.in_default.ensures.none is
