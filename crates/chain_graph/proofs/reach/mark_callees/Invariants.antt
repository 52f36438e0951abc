use Rattle.std.proofs.Common.{take}
use Rattle.chain_graph.specs.inner.Spreading.{Spread, IsCalled}
use Rattle.chain_graph.proofs.reach.mark_callees.Given as goal

abbrev pub invariant-loop-rule : goal.invariant-loop-rule
invariant-loop-rule g l = Spread (IsCalled (take l.rule-index l.rules)) l.initial.marks l.initial.todo.items l.marks l.todo.items
