use Rattle.std.proofs.Common.{ℕ, ◌<◌, ◌≡◌, ◌||◌, ◌&&◌, length, get_or, false, nat_lt}
use Rattle.ip_partition.specs.inner.Atoms.{is_in}
use Rattle.ip_partition.proofs.atoms.mark.Given as goal

abbrev pub invariant-loop-atom : goal.invariant-loop-atom
invariant-loop-atom l = record {
  count : length l.inside.items ≡ length l.fn.inside.items;
  marked : (k : ℕ) → k < length l.fn.inside.items → get_or l.inside.items k false ≡ (get_or l.fn.inside.items k false || (is_in l.first l.atom k && nat_lt k l.end));
}
