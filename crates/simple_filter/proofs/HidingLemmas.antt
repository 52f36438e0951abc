-- Where no test is hidden, none stands in an expression.
use Rattle.std.proofs.Common.{◌≡◌, Bool, false, List, [], ◌∷◌, map, refl, ◌∙◌, subst}
use Rattle.match_expr.specs.declared.expr.Expr.{Expr, map-Expr}
use Rattle.match_expr.specs.declared.expr.Expr.TheOpen.{Expr-F}
use Rattle.match_expr.specs.declared.expr.Expr.TheFolds.{fold-roll-Expr, ind-Expr}
use Rattle.simple_filter.specs.Hidden.{in_level, some_of, stands_in}

module _ {P : Type 0} where
  abbrev None : P → Bool
  None = λ x. false

  abbrev HasNone : Expr P → Type 0
  HasNone e = stands_in None e ≡ false

  no_part : (es : List ((e : Expr P) × HasNone e)) → some_of (map (stands_in None) (map (λ e. e.0) es)) ≡ false
  no_part [] = refl
  no_part (e ∷ es) = rw e.1 (no_part es)

  abbrev Layer : Expr-F P (Expr P) → Type 0
  Layer z = in_level None (map-Expr P (Expr P) Bool (stands_in None) z) ≡ false

  layer : (z : Expr-F P ((e : Expr P) × HasNone e)) → Layer (map-Expr P ((e : Expr P) × HasNone e) (Expr P) (λ e. e.0) z)
  layer (Expr-F.All es) = no_part es
  layer (Expr-F.Not e) = e.1
  layer (Expr-F.Prim x) = refl

  pub nothing_stands : (e : Expr P) → HasNone e
  nothing_stands = ind-Expr P HasNone (λ x y is. fold-roll-Expr P Bool (in_level None) x ∙ subst Layer is (layer y))
