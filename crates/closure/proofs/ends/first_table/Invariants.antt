use Rattle.closure.proofs.EndLemmas.{Begun}
use Rattle.closure.proofs.ends.first_table.Given as goal

abbrev pub invariant-loop-chain : goal.invariant-loop-chain
invariant-loop-chain g l = Begun l.fn.side l.dump l.chain l.table.items
