use Rattle.std.proofs.Common.{◌≡◌, take}
use Rattle.region_queries.proofs.probing.same_literals.Given as goal

abbrev pub invariant-loop-lit : goal.invariant-loop-lit
invariant-loop-lit g l = l.same.items ≡ take l.lit-index l.lits
