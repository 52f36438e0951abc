-- What the known literals of a dump that was read test.
use Rattle.std.specs.Prelude.{ℕ, ◌≡◌, ◌⊎◌, List}
use Rattle.std.specs.List.{AllByRecursion}
use Rattle.interval_set.specs.declared.set.Range.{Range}
use Rattle.match_expr.specs.declared.expr.Expr.{Expr}
use Rattle.match_expr.specs.declared.expr.Expr.TheVariants.{Prim}
use Rattle.primitives.specs.declared.prim.Prim_.{Prim_}
use Rattle.fw_rule.specs.declared.rule.Dump.{Dump}
use Rattle.fw_rule.specs.declared.rule.Lit.{Lit}
use Rattle.fw_rule.specs.declared.rule.Rule.{Rule}
use Rattle.fw_rule.specs.Calls.{RuleOf}
use Rattle.dump_grammar.specs.Arguments.{either_port}

module _ {W : ℕ} where
  -- one test alone, or that one of the two ports is in some set
  abbrev pub IsPlain : Expr (Prim_ W) → Type 0
  IsPlain expr = ((x : Prim_ W) × (expr ≡ Prim x)) ⊎ ((n : ℕ) × (rs : List Range) × (expr ≡ either_port n rs))

  abbrev pub IsPlainLiteral : Lit (Prim_ W) → Type 0
  IsPlainLiteral (Lit.Known neg expr) = IsPlain expr
  IsPlainLiteral (Lit.Unknown text) = Unit {0}

  -- so does each literal of each rule
  abbrev pub HasPlainLiterals : Dump (Prim_ W) → Type 0
  HasPlainLiterals dump = (c : ℕ) (rule : Rule (Prim_ W)) → RuleOf dump c rule → AllByRecursion IsPlainLiteral rule.lits
