use Rattle.std.proofs.Common.{◌≡◌}
use Rattle.reckoner.proofs.places.push_rule.Given as goal

abbrev pub invariant-loop-lit : goal.invariant-loop-lit
invariant-loop-lit g l = l.number ≡ l.lit-index
