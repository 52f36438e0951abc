use Rattle.std.proofs.Common.{◌≡◌, take}
use Rattle.std.specs.List.{sum_by}
use Rattle.fffuu_run.specs.Counts.{unknown_in_chain}
use Rattle.fffuu_run.proofs.counting.unknown_in_chains.Given as goal

abbrev pub invariant-loop-chain : goal.invariant-loop-chain
invariant-loop-chain g l = l.count ≡ sum_by unknown_in_chain (take l.chain-index l.chains)
