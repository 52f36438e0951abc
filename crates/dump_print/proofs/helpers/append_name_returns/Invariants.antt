use Rattle.std.proofs.Common.{◌≡◌, ◌++◌, map, take}
use Rattle.dump_print.specs.Helpers.{return_line}
use Rattle.dump_print.specs.Names.{name_word}
use Rattle.dump_print.specs.Spelling.{lines_text}
use Rattle.dump_print.proofs.helpers.append_name_returns.Given as goal

abbrev pub invariant-loop-pattern : goal.invariant-loop-pattern
invariant-loop-pattern l = l.out.items
    ≡ l.fn.out.items ++ lines_text (map (λ pattern. return_line l.chain l.option (name_word pattern)) (take l.pattern-index l.patterns))
