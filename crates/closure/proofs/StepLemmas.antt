-- Escapes that are made once are those of the definition.
use Rattle.std.proofs.Common.{◌≡◌, ℕ, zero, suc, List, [], ◌∷◌, ◌++◌, map, refl, sym, ◌∙◌, ap, append_assoc}
use Rattle.match_expr.specs.declared.expr.Expr.{Expr}
use Rattle.match_expr.specs.declared.expr.Expr.TheVariants.{All, Not}
use Rattle.closure.specs.declared.modes.Escape.{Escape}
use Rattle.closure.specs.Flat.{escape, carried, stayed}
use Rattle.closure.specs.inner.Steps.{under, refuted, handed_on}

module _ {P : Type 0} where
  pub stayed_under : (e : Expr P) (xs : List (Escape P)) → map refuted (map (under e) xs) ≡ stayed e xs
  stayed_under e [] = refl
  stayed_under e (x ∷ xs) = ap (λ (z : List (Expr P)). Not (All (e ∷ x.condition ∷ [])) ∷ z) (stayed_under e xs)

  pub carried_under : (past : List (Expr P)) (e : Expr P) (xs : List (Escape P)) → handed_on past (map (under e) xs) ≡ carried past e xs
  carried_under past e [] = refl
  carried_under past e (x ∷ xs) = ap (λ (z : List (Escape P)). escape past x.up (All (e ∷ x.condition ∷ [])) z) (carried_under past e xs)

  escape_append : (past : List (Expr P)) (n : ℕ) (e : Expr P) (a b : List (Escape P)) → escape past n e (a ++ b) ≡ escape past n e a ++ b
  escape_append past zero e a b = refl
  escape_append past (suc n) e a b = refl

  handed_more : (past : List (Expr P)) (xs : List (Escape P)) (x : Escape P) → handed_on past (xs ++ x ∷ []) ≡ handed_on past xs ++ escape past x.up x.condition []
  handed_more past [] x = refl
  handed_more past (y ∷ xs) x =
      ap (λ (z : List (Escape P)). escape past y.up y.condition z) (handed_more past xs x) ∙ escape_append past y.up y.condition (handed_on past xs) (escape past x.up x.condition [])

  -- one escape more is handed on
  pub handed_turn : (past : List (Expr P)) (before found found' : List (Escape P)) (xs : List (Escape P)) (x : Escape P) → found ≡ before ++ handed_on past xs → found' ≡ found ++ escape past x.up x.condition [] →
      found' ≡ before ++ handed_on past (xs ++ x ∷ [])
  handed_turn past before found found' xs x e f =
      f ∙ ap (λ (z : List (Escape P)). z ++ escape past x.up x.condition []) e ∙ append_assoc before (handed_on past xs) (escape past x.up x.condition [])
      ∙ ap (λ (z : List (Escape P)). before ++ z) (sym (handed_more past xs x))
