use Rattle.std.proofs.Common.{arith}
use Rattle.dump_print.specs.Printed.{lines_of_rule}
use Rattle.dump_print.specs.Views.{helped_of}
use Rattle.dump_print.proofs.LineLemmas.{all_lines_end}
use Rattle.dump_print.proofs.printing.append_each_rule.Goals as goal

pub returns : goal.returns
returns g c = all_lines_end (lines_of_rule g.F.Family.text_of g.row.W c.args.chain.now) helped_of c.args.rules.now c.loop-helped.helped-index _ _ (omega arith) c.loop-helped.invariant
