use Rattle.std.proofs.Common.{length}
use Rattle.interval_set.specs.declared.set.Range.{Range}
use Rattle.request.specs.Arguments.{IsPart}
use Rattle.basics.specs.Parts.{comma_parts}
use Rattle.request.proofs.ReadingLemmas.{SoFar}
use Rattle.request.proofs.claims.ranges_of.Given as goal

abbrev pub invariant-loop-part : goal.invariant-loop-part
invariant-loop-part g l = SoFar Range (IsPart g.F.Family.Reads g.row.W) (comma_parts l.set) (comma_parts l.rest) l.ranges.items

abbrev pub decreases-loop-part : goal.decreases-loop-part
decreases-loop-part g l = length l.rest
