use Rattle.std.proofs.Common.{sym, subst, List, ℕ}
use Rattle.std.proofs.lemmas.Result.{err_from_is_err_and}
use Rattle.ip_partition.specs.Boundaries.{Ascend}
use Rattle.ip_partition.specs.inner.Starts.{ends, with_numbers}
use Rattle.ip_partition.proofs.Filling.{ascend_with, filled, passed_high, passed_low}
use Rattle.ip_partition.proofs.boundaries.put_ends.Goals as goal

pub returns-in_err-put-clause-refused : goal.returns-in_err-put-clause-refused
returns-in_err-put-clause-refused c =
    let p = err_from_is_err_and c.from_residual.result c.from_residual.ensures.1 in
    rw (p.1, p.2) (passed_low c.args.top c.args.ranges.now c.loop-range.range-index c.loop-range.starts.items (with_numbers (ends c.args.top c.args.ranges.now) c.args.starts.now.items) _
    c.loop-range-test.true c.loop-range.invariant c.in_err-put.ensures.refused)

pub put_after-requires-clause-ascend : goal.put_after-requires-clause-ascend
put_after-requires-clause-ascend c =
    let P : List ℕ → Type 0 = λ ns. Ascend 0 ns in
    subst P (sym c.in_ok-put.ensures.put) (ascend_with _ c.loop-range.starts.items c.loop-range.invariant.ascend)

pub returns-in_err-put_after-clause-refused : goal.returns-in_err-put_after-clause-refused
returns-in_err-put_after-clause-refused c =
    let p = err_from_is_err_and c.from_residual-in_err-put_after.result c.from_residual-in_err-put_after.ensures.1 in
    rw (p.1, p.2) (passed_high c.args.top c.args.ranges.now c.loop-range.range-index c.loop-range.starts.items c.put.new.starts.items
    (with_numbers (ends c.args.top c.args.ranges.now) c.args.starts.now.items) _ c.loop-range-test.true c.loop-range.invariant c.in_ok-put.ensures.put c.in_err-put_after.ensures.refused)

pub loop-range-preserved : goal.loop-range-preserved
loop-range-preserved c =
    filled c.args.top c.args.ranges.now c.loop-range.range-index c.loop-range.starts.items c.put.new.starts.items c.put_after.new.starts.items
    (with_numbers (ends c.args.top c.args.ranges.now) c.args.starts.now.items) c.loop-range-test.true c.loop-range.invariant c.in_ok-put.ensures.put c.in_ok-put_after.ensures.put
    c.in_ok-put_after.ensures.few
