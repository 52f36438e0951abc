use Rattle.std.proofs.Common.{◌≡◌, ◌-◌, ◌^◌, ◌<◌, rules, nat_lt, true, false, arith, length, get_or}
use Rattle.std.specs.List.Sorted.{IsPartitionPoint}
use Rattle.std.proofs.lemmas.List.Sorted.{IsPartitionPoint-from_clause, IsPartitionedBy-ltb}
use Rattle.std.proofs.lemmas.Bool.Decides.{nat_tests}
use Rattle.interval_set.specs.declared.set.Range.{Range}
use Rattle.interval_set.proofs.Lists.{zero_range}
use Rattle.interval_set.proofs.LookUps.{none_lost}
use Rattle.interval_set.proofs.Search.{ends_rise}
use Rattle.interval_set.proofs.apart.passed.Goals as goal

pub returns-clause-numbers : goal.returns-clause-numbers
returns-clause-numbers g c = λ n.
    let some : 0 < length c.args.b.now = grind (arith, nat_tests, c.is_empty.ensures, c.if-is_empty.false) in
    let split : IsPartitionPoint (λ (r : Range). nat_lt r.hi (get_or c.args.b.now 0 zero_range).lo ≡ true) (λ (r : Range). nat_lt r.hi (get_or c.args.b.now 0 zero_range).lo ≡ false) c.args.a.now c.partition_point.result =
    IsPartitionPoint-from_clause (λ (r : Range). nat_lt r.hi (get_or c.args.b.now 0 zero_range).lo) c.args.a.now c.partition_point.result c.partition_point.ensures.partitioned
    (IsPartitionedBy-ltb (λ (r : Range). r.hi) c.args.a.now (get_or c.args.b.now 0 zero_range).lo (ends_rise (2 ^ g.row.W - 1) 0 c.args.a.now c.requires.a_set.1))
    (λ a r f' k. search rules) in
    none_lost (2 ^ g.row.W - 1) (2 ^ g.row.W - 1) c.partition_point.result c.args.a.now c.args.b.now c.requires.a_set.1 c.requires.b_set.1 some split c.partition_point.ensures.bound n
