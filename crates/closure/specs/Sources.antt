-- Where the primitives of a flat list come from.
use Rattle.std.specs.Prelude.{ℕ, Bool, List, Contains}
use Rattle.std.specs.List.{AllByRecursion}
use Rattle.match_expr.specs.declared.expr.Expr.{Expr}
use Rattle.match_expr.specs.declared.expr.FlatRule.{FlatRule}
use Rattle.match_expr.specs.Primitives.{primitives_in}
use Rattle.fw_rule.specs.declared.rule.Lit.{Lit}
use Rattle.fw_rule.specs.declared.rule.Rule.{Rule}
use Rattle.fw_rule.specs.declared.rule.Dump.{Dump}
use Rattle.fw_rule.specs.Walk.{Reaches, RuleOf}

module _ {P : Type 0} (dump : Dump P) (chain : ℕ) where
  -- the primitive stands in a known literal of a rule of a chain that is reached
  abbrev pub IsKnown : P → Type 0
  IsKnown x = (c : ℕ) × (rule : Rule P) × (neg : Bool) × (expr : Expr P) × Reaches dump chain c × RuleOf dump c rule × Contains rule.lits (Lit.Known neg expr) × Contains (primitives_in expr) x

  -- each primitive of each rule does
  abbrev pub AreKnown : List (FlatRule P) → Type 0
  AreKnown rules = AllByRecursion (λ (rule : FlatRule P). AllByRecursion IsKnown (primitives_in rule.expr)) rules
