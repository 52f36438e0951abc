use Rattle.std.proofs.Common.{ℕ, ◌<◌, get_or}
use Rattle.interval_set.specs.Numbers.{IsSet}
use Rattle.ip_partition.proofs.grouping.are_sets.Given as goal

abbrev pub invariant-loop-set : goal.invariant-loop-set
invariant-loop-set g l = (k : ℕ) (d : _) → k < l.set-index → IsSet g.row.W (get_or l.sets k d)
