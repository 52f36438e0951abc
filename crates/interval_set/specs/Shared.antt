-- The ranges that a set holds.
use Rattle.std.specs.Prelude.{List, [], Option, Some, None, Vec}
use Rattle.std.specs.declared.alloc.Global.{Global}
use Rattle.std.specs.declared.rc.Rc.{Rc}
use Rattle.interval_set.specs.declared.set.Range.{Range}

-- none, or the shared ones
abbrev pub shared_ranges : Option (Rc (Vec Range Global) Global) → List Range
shared_ranges None = []
shared_ranges (Some ranges) = ranges.value.items
