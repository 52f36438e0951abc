-- Which literals are hidden: those that test the name of an interface.
use Rattle.std.specs.Prelude.{ℕ, Bool, true, false, ◌||◌, List, [], ◌∷◌}
use Rattle.match_expr.specs.declared.expr.Expr.{Expr}
use Rattle.match_expr.specs.declared.expr.Expr.TheOpen.{Expr-F}
use Rattle.match_expr.specs.declared.expr.Expr.TheFolds.{fold-Expr}
use Rattle.fw_rule.specs.declared.rule.Dump.{Dump}
use Rattle.fw_rule.specs.Hiding.{hidden_by}
use Rattle.primitives.specs.declared.prim.Prim_.{Prim_}
use Rattle.simple_filter.specs.declared.hiding.Hide.{Hide}

-- whether some one is true
abbrev pub some_of : List Bool → Bool
some_of [] = false
some_of (x ∷ xs) = x || some_of xs

module _ {P : Type 0} (is : P → Bool) where
  -- one level, with the answer for each part in its place
  abbrev pub in_level : Expr-F P Bool → Bool
  in_level (Expr-F.All parts) = some_of parts
  in_level (Expr-F.Not part) = part
  in_level (Expr-F.Prim x) = is x

  -- whether a test of that kind stands in an expression, at any depth
  abbrev pub stands_in : Expr P → Bool
  stands_in = fold-Expr P Bool in_level

module _ {W : ℕ} where
  -- a test of the name of the output interface
  abbrev pub is_out_name : Prim_ W → Bool
  is_out_name (Prim_.OutName pattern) = true
  is_out_name x = false

  -- a test of the name of the input or the output interface
  abbrev pub is_name : Prim_ W → Bool
  is_name (Prim_.InName pattern) = true
  is_name (Prim_.OutName pattern) = true
  is_name x = false

  -- the tests that are hidden, with each literal in which one of them stands
  abbrev pub tests : Hide → Prim_ W → Bool
  tests Hide.Nothing = λ x. false
  tests Hide.OutNames = is_out_name
  tests Hide.BothNames = is_name

  -- whether a literal of this expression is hidden
  abbrev pub hides : Hide → Expr (Prim_ W) → Bool
  hides hide expr = stands_in (tests hide) expr

  -- the dump with these literals unknown, negated ones too, and all else as it is
  abbrev pub hidden : Hide → Dump (Prim_ W) → Dump (Prim_ W)
  hidden hide dump = hidden_by (hides hide) dump
