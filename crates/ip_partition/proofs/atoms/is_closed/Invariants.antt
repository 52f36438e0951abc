use Rattle.std.proofs.Common.{ℕ, ◌<◌, ◌≤◌, get_or}
use Rattle.ip_partition.proofs.atoms.is_closed.Given as goal

abbrev pub invariant-loop-atom : goal.invariant-loop-atom
invariant-loop-atom l = (k : ℕ) → l.first ≤ k → k < l.atom → (l.first ≤ get_or l.leaders k 0) × (get_or l.lasts (get_or l.leaders k 0) 0 < l.end)
