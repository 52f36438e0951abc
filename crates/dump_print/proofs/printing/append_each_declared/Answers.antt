use Rattle.std.proofs.Common.{arith}
use Rattle.dump_print.specs.Printed.{declared_helper}
use Rattle.dump_print.specs.Views.{helped_of}
use Rattle.dump_print.proofs.LineLemmas.{all_lines_end}
use Rattle.dump_print.proofs.printing.append_each_declared.Goals as goal

pub returns : goal.returns
returns g c = all_lines_end (λ helped. declared_helper helped.helper) helped_of c.args.rules.now c.loop-helped.helped-index _ _ (omega arith) c.loop-helped.invariant
