use Rattle.closure.specs.inner.Ends.{EndsWith}
use Rattle.closure.proofs.ends.ends_of.Given as goal

abbrev pub invariant-loop-passed : goal.invariant-loop-passed
invariant-loop-passed g l = EndsWith l.side l.table l.rules l.ends
