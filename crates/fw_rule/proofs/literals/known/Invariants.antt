use Rattle.std.proofs.Common.{◌≡◌, ◌++◌, drop}
use Rattle.fw_rule.specs.Matching.{known_in}
use Rattle.fw_rule.proofs.literals.known.Given as goal

abbrev pub invariant-loop-lit : goal.invariant-loop-lit
invariant-loop-lit g l = l.parts.items ++ known_in (drop l.lit-index l.lit-items) ≡ known_in l.rule.lits
