use Rattle.std.proofs.Common.{◌≡◌, ◌++◌, codes, map, take}
use Rattle.dump_grammar.specs.Lines.{bare}
use Rattle.dump_print.specs.Helpers.{return_line}
use Rattle.dump_print.specs.Numbers.{protocol_text}
use Rattle.dump_print.specs.Spelling.{lines_text}
use Rattle.dump_print.proofs.helpers.append_protocol_returns.Given as goal

abbrev pub invariant-loop-number : goal.invariant-loop-number
invariant-loop-number l = l.out.items
    ≡ l.fn.out.items ++ lines_text (map (λ n. return_line l.chain (codes "-p") (bare (protocol_text n))) (take l.number-index l.numbers))
