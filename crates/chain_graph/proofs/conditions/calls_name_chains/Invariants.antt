use Rattle.std.proofs.Common.{ℕ, ◌<◌, length}
use Rattle.fw_rule.specs.Calls.{Calls}
use Rattle.chain_graph.proofs.conditions.calls_name_chains.Given as goal

abbrev pub invariant-loop-chain : goal.invariant-loop-chain
invariant-loop-chain g l = (a b : ℕ) → a < l.chain-index → Calls l.dump a b → b < length l.dump.chains
