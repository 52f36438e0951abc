use Rattle.std.proofs.Common.{◌≡◌, ◌-◌, drop, length}
use Rattle.closure.specs.inner.Counts.{rules_items}
use Rattle.closure.proofs.counting.rules_counts.Given as goal

abbrev pub invariant-loop-passed : goal.invariant-loop-passed
invariant-loop-passed g l = l.rest ≡ rules_items l.side l.table (drop (length l.rules - l.passed) l.rules)
