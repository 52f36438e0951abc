use Rattle.std.proofs.Common.{◌≡◌, ◌++◌, map, take}
use Rattle.dump_print.specs.Helpers.{type_return}
use Rattle.dump_print.specs.Spelling.{lines_text}
use Rattle.dump_print.proofs.helpers.append_type_returns.Given as goal

abbrev pub invariant-loop-number : goal.invariant-loop-number
invariant-loop-number l = l.out.items
    ≡ l.fn.out.items ++ lines_text (map (λ n. type_return l.chain l.protocols n) (take l.number-index l.numbers))
