use Rattle.std.proofs.Common.{ℕ, ◌<◌, ◌≡◌, length, get_or, take}
use Rattle.interval_set.specs.Numbers.{has}
use Rattle.ip_partition.proofs.atoms.are_closed.Given as goal

abbrev pub invariant-loop-range : goal.invariant-loop-range
invariant-loop-range l =
    (k : ℕ) → k < length l.starts → has (take l.range-index l.ranges) (get_or l.starts k 0) ≡ has (take l.range-index l.ranges) (get_or l.starts (get_or l.numbering.leaders.items k 0) 0)
