use Rattle.std.proofs.Common.{◌≡◌, map, drop}
use Rattle.simple_filter.specs.Hidden.{hides, some_of}
use Rattle.simple_filter.proofs.hiding.+hides.Given as goal

abbrev pub invariant-loop-part : goal.invariant-loop-part
invariant-loop-part g l = some_of (map (hides l.hide) (drop l.part-index l.part-items)) ≡ hides l.hide l.expr
