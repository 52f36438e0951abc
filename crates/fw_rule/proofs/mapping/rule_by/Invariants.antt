use Rattle.std.proofs.Common.{◌≡◌, take, map}
use Rattle.fw_rule.proofs.mapping.rule_by.Given as goal

abbrev pub invariant-loop-lit : goal.invariant-loop-lit
invariant-loop-lit g l = l.lits.items ≡ map (g.M.LiteralMap.image l.map) (take l.lit-index l.lit-items)
