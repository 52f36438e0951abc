use Rattle.std.proofs.Common.{◌≡◌, take, map}
use Rattle.fw_rule.specs.Mapping.{mapped_chain}
use Rattle.fw_rule.proofs.rule.Dump.mapped.Given as goal

abbrev pub invariant-loop-chain : goal.invariant-loop-chain
invariant-loop-chain g l = l.chains.items ≡ map (mapped_chain (g.M.LiteralMap.image l.map)) (take l.chain-index l.chain-items)
