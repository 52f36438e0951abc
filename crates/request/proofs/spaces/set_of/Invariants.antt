use Rattle.std.proofs.Common.{◌≡◌, take}
use Rattle.request.specs.Spaces.{set_of}
use Rattle.request.proofs.spaces.set_of.Given as goal

abbrev pub invariant-loop-range : goal.invariant-loop-range
invariant-loop-range g l = l.set ≡ set_of g.row.W (take l.range-index l.ranges)
