use Rattle.std.proofs.Common.{◌≡◌, ◌∙◌, ◌-◌, ◌^◌, ap, sym, rules, nat_lt, true, false, arith, List, subst}
use Rattle.std.specs.List.Sorted.{IsPartitionPoint}
use Rattle.std.proofs.lemmas.List.Sorted.{IsPartitionPoint-from_clause, IsPartitionedBy-ltb}
use Rattle.std.proofs.lemmas.Bool.Decides.{nat_tests}
use Rattle.interval_set.specs.declared.set.Range.{Range}
use Rattle.interval_set.specs.Numbers.{has, Ascends}
use Rattle.interval_set.proofs.Search.{found, not_found, ends_rise}
use Rattle.interval_set.proofs.set.Set.contains.Goals as goal
use Rattle.interval_set.proofs.set.Set.contains.Goals.{After-partition_point-at}

rises : (g : _) (c : After-partition_point-at g) → Ascends (2 ^ g.row.W - 1) 0 c.ranges-ranges.result.now
rises g c =
    let P : List Range → Type 0 = λ xs. Ascends (2 ^ g.row.W - 1) 0 xs in
    subst P (sym c.ranges-ranges.ensures.same) c.ranges-ranges.ensures.set.1

split : (g : _) (c : After-partition_point-at g) →
    IsPartitionPoint (λ (r : Range). nat_lt r.hi c.args.value ≡ true) (λ (r : Range). nat_lt r.hi c.args.value ≡ false) c.ranges-ranges.result.now c.partition_point-at.result
split g c =
    IsPartitionPoint-from_clause (λ (r : Range). nat_lt r.hi c.args.value) c.ranges-ranges.result.now c.partition_point-at.result c.partition_point-at.ensures.partitioned
    (IsPartitionedBy-ltb (λ (r : Range). r.hi) c.ranges-ranges.result.now c.args.value (ends_rise (2 ^ g.row.W - 1) 0 c.ranges-ranges.result.now (rises g c)))
    (λ a r f' k. search rules)

pub returns-then-at-ranges : goal.returns-then-at-ranges
returns-then-at-ranges g c =
    sym (found (2 ^ g.row.W - 1) c.partition_point-at.result c.ranges-ranges.result.now c.args.value (rises g c.before) (split g c.before) c.if-at-ranges.true)
    ∙ ap (λ xs. has xs c.args.value) c.ranges-ranges.ensures.same

pub returns-else-at-ranges : goal.returns-else-at-ranges
returns-else-at-ranges g c =
    let f = not_found c.partition_point-at.result c.ranges-ranges.result.now c.args.value (split g c.before) c.if-at-ranges.false in
    let e = ap (λ xs. has xs c.args.value) c.ranges-ranges.ensures.same in
    grind (arith, nat_tests, f, e, c.if-at-ranges.false)
