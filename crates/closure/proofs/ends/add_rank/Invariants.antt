use Rattle.closure.specs.inner.Ends.{AreEnds}
use Rattle.closure.proofs.ends.add_rank.Given as goal

abbrev pub invariant-loop-chain : goal.invariant-loop-chain
invariant-loop-chain g l = AreEnds l.side l.dump l.table
