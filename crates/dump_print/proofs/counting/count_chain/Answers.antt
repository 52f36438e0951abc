use Rattle.std.proofs.Common.{arith}
use Rattle.dump_print.proofs.CountLemmas.{helper_count}
use Rattle.dump_print.proofs.counting.count_chain.Goals as goal

pub returns : goal.returns
returns g c = λ chain. omega (arith, helper_count chain c.args.rule.now, c.in_ok-returns.ensures chain)
