use Rattle.std.proofs.Common.{◌≡◌, take, map}
use Rattle.fw_rule.specs.Mapping.{mapped_rule}
use Rattle.fw_rule.proofs.mapping.chain_by.Given as goal

abbrev pub invariant-loop-rule : goal.invariant-loop-rule
invariant-loop-rule g l = l.rules.items ≡ map (mapped_rule (g.M.LiteralMap.image l.map)) (take l.rule-index l.rule-items)
