-- Flat rules from the parts of their expressions.
use Rattle.std.specs.Prelude.{Bool, [], ◌∷◌, ◌++◌}
use Rattle.match_expr.specs.declared.expr.Expr.{Expr}
use Rattle.match_expr.specs.declared.expr.Expr.TheVariants.{All}
use Rattle.match_expr.specs.declared.expr.FlatRule.{FlatRule}
use Rattle.closure.specs.declared.modes.Parts.{Parts}

-- one part more
abbrev pub with_part : {P : Type 0} → Parts P → Expr P → Parts P
with_part s e = record { parts = s.parts ++ e ∷ [] }

-- a rule that holds where all the parts do
abbrev pub rule_of_parts : {P : Type 0} → Parts P × Bool → FlatRule P
rule_of_parts x = record { expr = All (x.0).parts; accept = x.1 }
