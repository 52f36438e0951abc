use Rattle.std.proofs.Common.{◌≡◌, ◌++◌, drop}
use Rattle.closure.specs.inner.Ways.{carried}
use Rattle.closure.proofs.tally.carry.Given as goal

abbrev pub invariant-loop-way : goal.invariant-loop-way
invariant-loop-way l = l.ways.items ++ carried l.past l.literals (drop l.way-index l.inner) ≡ l.fn.ways.items ++ carried l.past l.literals l.inner
