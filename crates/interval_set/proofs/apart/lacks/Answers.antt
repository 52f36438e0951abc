use Rattle.std.proofs.Common.{◌≡◌, ◌-◌, ◌^◌, ◌<◌, rules, nat_lt, true, false, arith, length, get_or}
use Rattle.std.specs.List.Sorted.{IsPartitionPoint}
use Rattle.std.proofs.lemmas.List.Sorted.{IsPartitionPoint-from_clause, IsPartitionedBy-ltb}
use Rattle.std.proofs.lemmas.Bool.Decides.{nat_tests}
use Rattle.interval_set.specs.declared.set.Range.{Range}
use Rattle.interval_set.proofs.Lists.{zero_range}
use Rattle.interval_set.proofs.LookUps.{behind, between}
use Rattle.interval_set.proofs.Search.{ends_rise}
use Rattle.interval_set.proofs.apart.lacks.Goals as goal
use Rattle.interval_set.proofs.apart.lacks.Goals.{After-partition_point-at}

split : (g : _) (c : After-partition_point-at g) →
    IsPartitionPoint (λ (r : Range). nat_lt r.hi c.args.y.lo ≡ true) (λ (r : Range). nat_lt r.hi c.args.y.lo ≡ false) c.args.ranges.now c.partition_point-at.result
split g c =
    IsPartitionPoint-from_clause (λ (r : Range). nat_lt r.hi c.args.y.lo) c.args.ranges.now c.partition_point-at.result c.partition_point-at.ensures.partitioned
    (IsPartitionedBy-ltb (λ (r : Range). r.hi) c.args.ranges.now c.args.y.lo (ends_rise (2 ^ g.row.W - 1) 0 c.args.ranges.now c.requires.1))
    (λ a r f' k. search rules)

pub returns-then-at-ranges : goal.returns-then-at-ranges
returns-then-at-ranges g c = λ t n. behind c.partition_point-at.result c.args.ranges.now c.args.y (split g c.before) c.if-at-ranges.true n

pub returns-else-at-ranges : goal.returns-else-at-ranges
returns-else-at-ranges g c = λ t n.
    let less : c.args.y.hi < (get_or c.args.ranges.now c.partition_point-at.result zero_range).lo = grind (arith, nat_tests, t) in
    let inside : c.partition_point-at.result < length c.args.ranges.now = omega (arith, c.partition_point-at.ensures.bound, c.if-at-ranges.false) in
    between (2 ^ g.row.W - 1) c.partition_point-at.result c.args.ranges.now c.args.y c.requires.1 (split g c.before) inside less n
