use Rattle.std.proofs.Common.{◌≡◌, ◌++◌, take}
use Rattle.std.specs.List.{flat_map}
use Rattle.dump_print.specs.Printed.{lines_of_helper}
use Rattle.dump_print.specs.Spelling.{lines_text}
use Rattle.dump_print.proofs.printing.append_each_help.Given as goal

abbrev pub invariant-loop-helped : goal.invariant-loop-helped
invariant-loop-helped g l = l.out.items
    ≡ l.fn.out.items ++ lines_text (flat_map (λ helped. lines_of_helper helped.rule.now helped.helper) (take l.helped-index l.rules))
