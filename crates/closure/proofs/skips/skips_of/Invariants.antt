use Rattle.closure.proofs.SkipLemmas.{Tabled}
use Rattle.closure.proofs.skips.skips_of.Given as goal

abbrev pub invariant-loop-chain : goal.invariant-loop-chain
invariant-loop-chain g l = Tabled l.side l.dump l.chain l.table.items
