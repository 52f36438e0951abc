use Rattle.closure.specs.inner.Ends.{AreEnds}
use Rattle.closure.proofs.ends.all_ends.Given as goal

abbrev pub invariant-loop-below : goal.invariant-loop-below
invariant-loop-below g l = AreEnds l.side l.dump l.table.items
