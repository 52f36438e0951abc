use Rattle.std.proofs.Common.{ℕ, ◌<◌}
use Rattle.chain_graph.specs.Faults.{IsLoop}
use Rattle.chain_graph.proofs.loops.first_loop.Given as goal

abbrev pub invariant-loop-next : goal.invariant-loop-next
invariant-loop-next g l = (k : ℕ) → k < l.next → IsLoop l.dump l.chain k → ⊥
