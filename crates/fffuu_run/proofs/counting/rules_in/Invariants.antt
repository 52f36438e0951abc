use Rattle.std.proofs.Common.{◌≡◌, take}
use Rattle.std.specs.List.{sum_by}
use Rattle.fffuu_run.specs.Counts.{rules_in_chain}
use Rattle.fffuu_run.proofs.counting.rules_in.Given as goal

abbrev pub invariant-loop-chain : goal.invariant-loop-chain
invariant-loop-chain g l = l.count ≡ sum_by rules_in_chain (take l.chain-index l.chains)
