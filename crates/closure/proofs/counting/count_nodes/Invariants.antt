use Rattle.closure.specs.inner.Counted.{AreCounted}
use Rattle.closure.proofs.counting.count_nodes.Given as goal

abbrev pub invariant-loop-below : goal.invariant-loop-below
invariant-loop-below g l = AreCounted l.side l.dump l.ranked l.below l.table.items
