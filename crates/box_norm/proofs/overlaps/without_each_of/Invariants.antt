use Rattle.std.proofs.Common.{◌≡◌, drop, Some}
use Rattle.box_norm.specs.Overlaps.{without_each}
use Rattle.box_norm.proofs.overlaps.without_each_of.Given as goal

abbrev pub invariant-loop-pattern : goal.invariant-loop-pattern
invariant-loop-pattern l = without_each (Some l.left) (drop l.pattern-index l.patterns) ≡ without_each (Some l.fn.set) l.patterns
