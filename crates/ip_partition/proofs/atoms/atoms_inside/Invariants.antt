use Rattle.std.proofs.Common.{ℕ, ◌<◌, ◌≡◌, length, get_or, false, take}
use Rattle.interval_set.specs.Numbers.{has}
use Rattle.ip_partition.proofs.atoms.atoms_inside.Given as goal

abbrev pub invariant-loop-range : goal.invariant-loop-range
invariant-loop-range l = record {
  count : length l.inside.items ≡ length l.starts;
  marked : (k : ℕ) → k < length l.starts → get_or l.inside.items k false ≡ has (take l.range-index l.ranges) (get_or l.starts k 0);
}
