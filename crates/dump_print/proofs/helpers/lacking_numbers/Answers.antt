use Rattle.std.proofs.Common.{arith, subst, sym}
use Rattle.interval_set.specs.Numbers.{IsSet}
use Rattle.dump_print.proofs.LineLemmas.{range_at}
use Rattle.dump_print.proofs.helpers.lacking_numbers.Goals as goal

pub push_numbers-requires-clause-ordered : goal.push_numbers-requires-clause-ordered
push_numbers-requires-clause-ordered c =
    let set : IsSet 8 c.ranges-range-items.result.now = subst (IsSet 8) (sym c.ranges-range-items.ensures.same) c.ranges-range-items.ensures.set in
    (range_at _ 0 c.ranges-range-items.result.now c.loop-range.range-index _ set.1 (omega arith)).0

pub push_numbers-requires-clause-within : goal.push_numbers-requires-clause-within
push_numbers-requires-clause-within c =
    let set : IsSet 8 c.ranges-range-items.result.now = subst (IsSet 8) (sym c.ranges-range-items.ensures.same) c.ranges-range-items.ensures.set in
    (range_at _ 0 c.ranges-range-items.result.now c.loop-range.range-index _ set.1 (omega arith)).1
