-- The sets of addresses that are tested.
use Rattle.std.specs.Prelude.{ℕ, ◌<◌, ◌↔◌, List, [], ◌∷◌, map, Contains}
use Rattle.interval_set.specs.declared.set.Range.{Range}
use Rattle.match_expr.specs.declared.expr.Expr.{Expr}
use Rattle.match_expr.specs.declared.expr.Expr.TheOpen.{Expr-F}
use Rattle.match_expr.specs.declared.expr.Expr.TheFolds.{fold-Expr}
use Rattle.match_expr.specs.Primitives.{joined}
use Rattle.fw_rule.specs.declared.rule.Dump.{Dump}
use Rattle.fw_rule.specs.declared.rule.Lit.{Lit}
use Rattle.fw_rule.specs.declared.rule.Rule.{Rule}
use Rattle.fw_rule.specs.Walk.{Reaches}
use Rattle.chain_graph.specs.Marks.{AreRulesOf}
use Rattle.primitives.specs.declared.prim.Prim_.{Prim_}
use Rattle.service_matrix.specs.Refusals.{IsAddressSet}

module _ {W : ℕ} where
  -- the set of a test of addresses
  abbrev pub prim_sets : Prim_ W → List (List Range)
  prim_sets (Prim_.Src set) = set ∷ []
  prim_sets (Prim_.Dst set) = set ∷ []
  prim_sets x = []

  -- one level, with the sets of each part in its place
  abbrev pub level_sets : Expr-F (Prim_ W) (List (List Range)) → List (List Range)
  level_sets (Expr-F.All parts) = joined parts
  level_sets (Expr-F.Not part) = part
  level_sets (Expr-F.Prim x) = prim_sets x

  abbrev pub expr_sets : Expr (Prim_ W) → List (List Range)
  expr_sets = fold-Expr (Prim_ W) (List (List Range)) level_sets

  -- those of a known literal
  abbrev pub literal_sets : Lit (Prim_ W) → List (List Range)
  literal_sets (Lit.Known neg expr) = expr_sets expr
  literal_sets (Lit.Unknown text) = []

  abbrev pub rule_sets : Rule (Prim_ W) → List (List Range)
  rule_sets rule = joined (map literal_sets rule.lits)

  abbrev pub all_sets : List (Rule (Prim_ W)) → List (List Range)
  all_sets rules = joined (map rule_sets rules)

module _ {W : ℕ} (dump : Dump (Prim_ W)) (chain : ℕ) where
  -- a rule of a chain that is reached and stands before some place among the chains has the set
  abbrev pub IsSetBefore : ℕ → List Range → Type 0
  IsSetBefore n set = (c : ℕ) × (rules : List (Rule (Prim_ W))) × (c < n) × Reaches dump chain c × AreRulesOf dump c rules × Contains (all_sets rules) set

  -- the list has each set of addresses in reach, and no other
  abbrev pub AreAddressSets : List (List Range) → Type 0
  AreAddressSets sets = (set : List Range) → Contains sets set ↔ IsAddressSet dump chain set
