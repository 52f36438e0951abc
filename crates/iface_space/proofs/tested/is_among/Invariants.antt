use Rattle.std.proofs.Common.{◌≡◌, false, take}
use Rattle.std.specs.List.{list_any}
use Rattle.iface_space.specs.Tested.{same_pattern}
use Rattle.iface_space.proofs.tested.is_among.Given as goal

abbrev pub invariant-loop-pattern : goal.invariant-loop-pattern
invariant-loop-pattern l = list_any (same_pattern l.by) (take l.pattern-index l.patterns) ≡ false
