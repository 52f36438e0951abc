use Rattle.std.proofs.Common.{ℕ, ◌<◌, get_or, take}
use Rattle.chain_graph.specs.inner.Spreading.{IsCalled}
use Rattle.chain_graph.proofs.loops.calls_below.Given as goal

abbrev pub invariant-loop-rule : goal.invariant-loop-rule
invariant-loop-rule g l = (k : ℕ) → IsCalled (take l.rule-index l.rules) k → get_or l.numbers k 0 < l.limit
