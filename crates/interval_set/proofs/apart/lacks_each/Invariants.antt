use Rattle.std.proofs.Common.{◌≡◌, ◌&&◌, ℕ, drop}
use Rattle.interval_set.specs.Numbers.{has}
use Rattle.interval_set.proofs.apart.lacks_each.Given as goal

abbrev pub invariant-loop-y : goal.invariant-loop-y
invariant-loop-y g l = (n : ℕ) → (has l.many n && has l.few n) ≡ (has l.many n && has (drop l.y-index l.few) n)
