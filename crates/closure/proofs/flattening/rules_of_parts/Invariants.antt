use Rattle.std.proofs.Common.{◌≡◌, map}
use Rattle.closure.specs.inner.Parts.{rule_of_parts}
use Rattle.closure.proofs.flattening.rules_of_parts.Given as goal

abbrev pub invariant-loop-parts : goal.invariant-loop-parts
invariant-loop-parts g l = l.rules.items ≡ map rule_of_parts l.yielded
