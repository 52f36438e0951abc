use Rattle.std.proofs.Common.{◌≡◌, ◌++◌, drop, Some}
use Rattle.box_norm.specs.Overlaps.{cut_by_each}
use Rattle.box_norm.proofs.overlaps.cut_by_each_of.Given as goal

abbrev pub invariant-loop-pattern : goal.invariant-loop-pattern
invariant-loop-pattern l = l.sets.items ++ cut_by_each (Some l.set) (drop l.pattern-index l.patterns) ≡ cut_by_each (Some l.set) l.patterns
