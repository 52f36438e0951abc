use Rattle.dump_grammar.specs.Lines.{words_of}
use Rattle.dump_grammar.proofs.RuleOnce.{one_rule_line}
use Rattle.dump_grammar.proofs.law.one_rule_line.Goals as goal

pub returns : goal.returns
returns g c = λ a b p q. one_rule_line {W = g.row.W} g.F.Family.Reads c.args.names.now (words_of c.args.words.now) a b c.one_net.ensures c.one_range.ensures p q
