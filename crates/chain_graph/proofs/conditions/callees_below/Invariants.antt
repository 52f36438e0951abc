use Rattle.std.proofs.Common.{ℕ, ◌<◌, take}
use Rattle.chain_graph.specs.inner.Spreading.{IsCalled}
use Rattle.chain_graph.proofs.conditions.callees_below.Given as goal

abbrev pub invariant-loop-rule : goal.invariant-loop-rule
invariant-loop-rule g l = (k : ℕ) → IsCalled (take l.rule-index l.rules) k → k < l.bound
