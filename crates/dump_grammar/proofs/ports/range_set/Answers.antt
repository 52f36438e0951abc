use Rattle.std.proofs.lemmas.Result.{IfOk-weaker}
use Rattle.dump_grammar.proofs.PortListLemmas.{range_whole}
use Rattle.dump_grammar.proofs.ports.range_set.Goals as goal

pub returns : goal.returns
returns c = IfOk-weaker c.range.result _ _ (λ s is. range_whole s c.args.range is c.requires.ordered c.requires.ports) c.range.ensures
