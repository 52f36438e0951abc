use Rattle.std.proofs.Common.{arith}
use Rattle.printed_text.proofs.PrintedRules.{read_back}
use Rattle.printed_text.proofs.is_read_back.Goals as goal

pub returns : goal.returns
returns g c = read_back g.F.Family.Reads g.F.Family.text_of g.row.W g.met.F.Family.round g.met.F.Family.plain
    c.ports_are_kept.ensures c.words_are_kept.ensures c.args.chain.now c.args.policy c.args.rules.now c.requires.asked (omega arith) c.requires.printable c.requires.names
