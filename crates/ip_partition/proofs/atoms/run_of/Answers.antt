use Rattle.std.proofs.Common.{nat_le, nat_lt, rules}
use Rattle.std.proofs.lemmas.List.Sorted.{IsPartitionPoint-from_clause, IsPartitionedBy-leb, IsPartitionedBy-ltb}
use Rattle.ip_partition.proofs.Runs.{run}
use Rattle.ip_partition.proofs.Sorted.{never_falls}
use Rattle.ip_partition.proofs.atoms.run_of.Goals as goal

pub returns-clause-atoms : goal.returns-clause-atoms
returns-clause-atoms c =
    run c.args.starts.now c.args.range c.partition_point-first.result c.partition_point-end.result
    (IsPartitionPoint-from_clause (λ y. nat_lt y c.args.range.lo) c.args.starts.now c.partition_point-first.result c.partition_point-first.ensures.partitioned
    (IsPartitionedBy-ltb (λ n. n) c.args.starts.now c.args.range.lo (never_falls 0 c.args.starts.now c.requires))
    (λ a r f' k. search rules))
    (IsPartitionPoint-from_clause (λ y. nat_le y c.args.range.hi) c.args.starts.now c.partition_point-end.result c.partition_point-end.ensures.partitioned
    (IsPartitionedBy-leb (λ n. n) c.args.starts.now c.args.range.hi (never_falls 0 c.args.starts.now c.requires))
    (λ a r f' k. search rules))
