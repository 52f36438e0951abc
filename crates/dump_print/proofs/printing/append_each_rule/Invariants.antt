use Rattle.std.proofs.Common.{◌≡◌, ◌++◌, take}
use Rattle.std.specs.List.{flat_map}
use Rattle.dump_print.specs.Printed.{lines_of_rule}
use Rattle.dump_print.specs.Spelling.{lines_text}
use Rattle.dump_print.specs.Views.{helped_of}
use Rattle.dump_print.proofs.printing.append_each_rule.Given as goal

abbrev pub invariant-loop-helped : goal.invariant-loop-helped
invariant-loop-helped g l = l.out.items
    ≡ l.fn.out.items ++ lines_text (flat_map (λ helped. lines_of_rule g.F.Family.text_of g.row.W l.chain (helped_of helped)) (take l.helped-index l.rules))
