use Rattle.std.proofs.Common.{◌≡◌, ◌^◌, ◌-◌, min, arith}
use Rattle.dump_print.specs.Printed.{count_lines}
use Rattle.dump_print.specs.Views.{helped_of}
use Rattle.dump_print.proofs.CountLemmas.{printed_count}
use Rattle.dump_print.proofs.printing.print.Goals as goal

pub returns-then-lines-gt-MOST_LINES-clause-many : goal.returns-then-lines-gt-MOST_LINES-clause-many
returns-then-lines-gt-MOST_LINES-clause-many g c =
    let counted : c.in_ok-lines.lines ≡ min (count_lines g.F.Family.text_of g.row.W c.args.chain.now c.args.rules.now) (2 ^ 64 - 1) =
    printed_count g.F.Family.text_of g.row.W c.args.chain.now c.args.rules.now helped_of c.in_ok-helped.helped.items c.as_slice.result.now _ _ c.in_ok-lines.ensures
    c.as_slice.ensures.value c.in_ok-helped.ensures in
    λ is. omega arith

pub returns-clause-count : goal.returns-clause-count
returns-clause-count g c =
    let counted : c.in_ok-lines.lines ≡ min (count_lines g.F.Family.text_of g.row.W c.args.chain.now c.args.rules.now) (2 ^ 64 - 1) =
    printed_count g.F.Family.text_of g.row.W c.args.chain.now c.args.rules.now helped_of c.in_ok-helped.helped.items c.as_slice.result.now _ _ c.in_ok-lines.ensures
    c.as_slice.ensures.value c.in_ok-helped.ensures in
    omega arith
