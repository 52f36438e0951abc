use Rattle.std.proofs.Common.{arith}
use Rattle.interval_set.specs.Numbers.{IsSet}
use Rattle.ip_partition.proofs.GroupLaws.{each_at}
use Rattle.ip_partition.proofs.grouping.are_sets.Goals as goal

pub returns : goal.returns
returns g c = each_at (IsSet g.row.W) c.args.sets.now (λ k d below. c.loop-set.invariant k d (omega (arith, below, c.loop-set-test.false)))
