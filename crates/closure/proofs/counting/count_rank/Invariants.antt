use Rattle.closure.proofs.CountLemmas.{Counting}
use Rattle.closure.proofs.counting.count_rank.Given as goal

abbrev pub invariant-loop-chain : goal.invariant-loop-chain
invariant-loop-chain g l = Counting l.side l.dump l.ranked l.rank l.chain l.table
