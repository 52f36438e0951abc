-- Of no cubes a cut leaves none.
use Rattle.std.proofs.Common.{◌≡◌, ℕ, Bool, true, false, if◌then◌else◌, List, [], ◌∷◌, length, map, Option, None, Some, refl, sym, ◌∙◌, ap, subst, arith}
use Rattle.match_expr.specs.declared.expr.Expr.{Expr, map-Expr}
use Rattle.match_expr.specs.declared.expr.Expr.TheVariants.{Not}
use Rattle.match_expr.specs.declared.expr.Expr.TheOpen.{Expr-F}
use Rattle.match_expr.specs.declared.expr.Expr.TheFolds.{fold-roll-Expr, ind-Expr}
use Rattle.primitives.specs.declared.prim.Prim_.{Prim_}
use Rattle.box_norm.specs.declared.cube.Cube.{Cube}
use Rattle.box_norm.specs.Cuts.{Work, Cuts, keep_all, omit_all, cuts_step, cuts_by}
use Rattle.box_norm.proofs.CutLaws.{cuts-Not}
use Rattle.simple_filter.specs.inner.Collected.{cut_by, within_limit}

pub empty_list : {A : Type 0} (xs : List A) → length xs ≡ 0 → xs ≡ []
empty_list [] h = refl
empty_list (x ∷ xs) h = absurd (omega (arith, h))

module _ (W : ℕ) where
  abbrev none : Work W
  none = record { list = []; longest = 0 }

  record LeavesNone (cuts : Cuts W) : Type 0 where
    keep : cuts.keep [] ≡ none
    omit : cuts.omit [] ≡ none

  abbrev E : Type 0
  E = Expr (Prim_ W)

  abbrev Kept : E → Type 0
  Kept e = LeavesNone (cuts_by {W = W} e)

  keeps_none : (es : List ((e : E) × Kept e)) → keep_all (map (cuts_by {W = W}) (map (λ e. e.0) es)) [] ≡ none
  keeps_none [] = refl
  keeps_none (e ∷ es) = rw ((e.1).keep, keeps_none es) refl

  omits_none : (es : List ((e : E) × Kept e)) → omit_all (map (cuts_by {W = W}) (map (λ e. e.0) es)) [] ≡ none
  omits_none [] = refl
  omits_none (e ∷ es) = rw ((e.1).keep, (e.1).omit, omits_none es) refl

  abbrev Layer : Expr-F (Prim_ W) E → Type 0
  Layer z = LeavesNone (cuts_step (map-Expr (Prim_ W) E (Cuts W) (cuts_by {W = W}) z))

  layer : (z : Expr-F (Prim_ W) ((e : E) × Kept e)) → Layer (map-Expr (Prim_ W) ((e : E) × Kept e) E (λ e. e.0) z)
  layer (Expr-F.All es) = record { keep = keeps_none es; omit = omits_none es }
  layer (Expr-F.Not e) = record { keep = (e.1).omit; omit = (e.1).keep }
  layer (Expr-F.Prim x) = record { keep = refl; omit = refl }

  leaves_none : (e : E) → Kept e
  leaves_none = ind-Expr (Prim_ W) Kept (λ x y is. subst LeavesNone (sym (fold-roll-Expr (Prim_ W) (Cuts W) (cuts_step {W = W}) x)) (subst Layer is (layer y)))

  -- no cubes, or too many, stay so
  pub stays : (over : Bool) (list : List (Cube W)) (state : Option (List (Cube W))) → (if over then None else Some list) ≡ state → (over ≡ false → list ≡ []) →
      (e : Expr (Prim_ W)) → (if over then None else Some []) ≡ cut_by state e
  stays true list state is empty e = ap (λ z. cut_by z e) is
  stays false list state is empty e =
      ap (within_limit {W = W}) (sym ((leaves_none e).keep)) ∙ ap (λ (l : List (Cube W)). cut_by (Some l) e) (sym (empty refl)) ∙ ap (λ z. cut_by z e) is

  -- a cut by what doesn't hold
  pub cut_by_not : (over : Bool) (list : List (Cube W)) (state : Option (List (Cube W))) → (if over then None else Some list) ≡ state → over ≡ false →
      (e : Expr (Prim_ W)) → within_limit ((cuts_by {W = W} e).omit list) ≡ cut_by state (Not e)
  cut_by_not true list state is off e = absurd (grind (arith, off))
  cut_by_not false list state is off e = ap (λ (c : Cuts W). within_limit (c.keep list)) (sym (cuts-Not e)) ∙ ap (λ z. cut_by z (Not e)) is
