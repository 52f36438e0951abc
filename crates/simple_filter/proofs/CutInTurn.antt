-- An All cuts the cubes as its parts do in turn.
use Rattle.std.proofs.Common.{◌≡◌, ℕ, ◌<◌, ◌≤◌, nat_lt, Bool, true, false, if◌then◌else◌, List, [], ◌∷◌, length, max, Option, None, Some, refl, sym, ◌∙◌, ap, subst, map, arith}
use Rattle.std.proofs.lemmas.Bool.Decides.{nat_tests}
use Rattle.limits.specs.declared.TheConstants.{MOST_CUBES}
use Rattle.match_expr.specs.declared.expr.Expr.{Expr, map-Expr}
use Rattle.match_expr.specs.declared.expr.Expr.TheOpen.{Expr-F}
use Rattle.match_expr.specs.declared.expr.Expr.TheFolds.{fold-roll-Expr, ind-Expr}
use Rattle.primitives.specs.declared.prim.Prim_.{Prim_}
use Rattle.closure.specs.Stream.{cut_all, IsCutByParts}
use Rattle.box_norm.specs.declared.cube.Cube.{Cube}
use Rattle.box_norm.specs.Cuts.{Work, Cuts, keep_all, omit_all, cuts_step, cuts_by}
use Rattle.box_norm.specs.Normal.{whole_of}
use Rattle.box_norm.proofs.CutLaws.{cuts-All}
use Rattle.simple_filter.specs.inner.Collected.{within_limit, cut_by, whole_cubes}

module _ (W : ℕ) where
  -- the list that a cut returns is one of those on its way
  pub record Long (cuts : Cuts W) : Type 0 where
    pub keep : (l : List (Cube W)) → length (cuts.keep l).list ≤ (cuts.keep l).longest
    pub omit : (l : List (Cube W)) → length (cuts.omit l).list ≤ (cuts.omit l).longest

  abbrev E : Type 0
  E = Expr (Prim_ W)

  abbrev Kept : E → Type 0
  Kept e = Long (cuts_by {W = W} e)

  keeps_long : (es : List (Cuts W)) (l : List (Cube W)) → length (keep_all es l).list ≤ (keep_all es l).longest
  keeps_long [] l = omega arith
  keeps_long (e ∷ es) l = let h = keeps_long es (e.keep l).list in omega (arith, h)

  omits_long : (es : List (Cuts W)) (l : List (Cube W)) → length (omit_all es l).list ≤ (omit_all es l).longest
  omits_long [] l = omega arith
  omits_long (e ∷ es) l = omega arith

  abbrev Layer : Expr-F (Prim_ W) E → Type 0
  Layer z = Long (cuts_step (map-Expr (Prim_ W) E (Cuts W) (cuts_by {W = W}) z))

  layer : (z : Expr-F (Prim_ W) ((e : E) × Kept e)) → Layer (map-Expr (Prim_ W) ((e : E) × Kept e) E (λ e. e.0) z)
  layer (Expr-F.All es) = record { keep = keeps_long (map (cuts_by {W = W}) (map (λ e. e.0) es)); omit = omits_long (map (cuts_by {W = W}) (map (λ e. e.0) es)) }
  layer (Expr-F.Not e) = record { keep = (e.1).omit; omit = (e.1).keep }
  layer (Expr-F.Prim x) = record { keep = λ l. omega arith; omit = λ l. omega arith }

  pub cuts_long : (e : Expr (Prim_ W)) → Long (cuts_by {W = W} e)
  cuts_long = ind-Expr (Prim_ W) Kept (λ x y is. subst Long (sym (fold-roll-Expr (Prim_ W) (Cuts W) (cuts_step {W = W}) x)) (subst Layer is (layer y)))

  none_in_turn : (es : List E) → cut_all (cut_by {W = W}) None es ≡ None
  none_in_turn [] = refl
  none_in_turn (e ∷ es) = none_in_turn es

  abbrev InTurn : List E → List (Cube W) → Type 0
  InTurn es l = within_limit (keep_all (map (cuts_by {W = W}) es) l) ≡ cut_all (cut_by {W = W}) (Some l) es

  -- where the list isn't too long
  short : (work : Work W) → work.longest ≤ MOST_CUBES → within_limit work ≡ Some work.list
  short work h = by (nat_lt MOST_CUBES work.longest) refl
    where
      by : (b : Bool) → nat_lt MOST_CUBES work.longest ≡ b → (if b then None else Some work.list) ≡ Some work.list
      by true e = absurd (grind (arith, nat_tests, e, h))
      by false e = refl

  over : (work : Work W) → MOST_CUBES < work.longest → within_limit work ≡ None
  over work h = by (nat_lt MOST_CUBES work.longest) refl
    where
      by : (b : Bool) → nat_lt MOST_CUBES work.longest ≡ b → (if b then None else Some work.list) ≡ None
      by true e = refl
      by false e = absurd (grind (arith, nat_tests, e, h))

  -- the two sums are as one where the first part keeps to the limit
  same_limit : (list : List (Cube W)) (a b : ℕ) → a ≤ MOST_CUBES → within_limit (record { list = list; longest = max a b }) ≡ within_limit (record { list = list; longest = b })
  same_limit list a b h = by (nat_lt MOST_CUBES b) refl
    where
      by : (t : Bool) → nat_lt MOST_CUBES b ≡ t → within_limit (record { list = list; longest = max a b }) ≡ within_limit (record { list = list; longest = b })
      by true e = over (record { list = list; longest = max a b }) (grind (arith, nat_tests, e)) ∙ sym (over (record { list = list; longest = b }) (grind (arith, nat_tests, e)))
      by false e = short (record { list = list; longest = max a b }) (grind (arith, nat_tests, e, h)) ∙ sym (short (record { list = list; longest = b }) (grind (arith, nat_tests, e)))

  turned : (es : List E) (first : Work W) → length first.list ≤ first.longest → (length first.list ≤ MOST_CUBES → InTurn es first.list) → (t : Bool) → nat_lt MOST_CUBES first.longest ≡ t →
      within_limit (record {
        list = (keep_all (map (cuts_by {W = W}) es) first.list).list;
        longest = max first.longest (keep_all (map (cuts_by {W = W}) es) first.list).longest;
      }) ≡ cut_all (cut_by {W = W}) (within_limit first) es
  turned es first long later true t =
      let many : MOST_CUBES < first.longest = grind (arith, nat_tests, t) in
      over (record { list = (keep_all (map (cuts_by {W = W}) es) first.list).list; longest = max first.longest (keep_all (map (cuts_by {W = W}) es) first.list).longest }) (grind (arith, many))
      ∙ sym (none_in_turn es) ∙ ap (λ (z : Option (List (Cube W))). cut_all (cut_by {W = W}) z es) (sym (over first many))
  turned es first long later false t =
      let small : first.longest ≤ MOST_CUBES = grind (arith, nat_tests, t) in
      same_limit (keep_all (map (cuts_by {W = W}) es) first.list).list first.longest (keep_all (map (cuts_by {W = W}) es) first.list).longest small
      ∙ later (omega (arith, small, long))
      ∙ ap (λ (z : Option (List (Cube W))). cut_all (cut_by {W = W}) z es) (sym (short first small))

  in_turn : (es : List E) (l : List (Cube W)) → length l ≤ MOST_CUBES → InTurn es l
  in_turn [] l h = short (record { list = l; longest = length l }) h
  in_turn (e ∷ es) l h = turned es ((cuts_by {W = W} e).keep l) ((cuts_long e).keep l) (in_turn es ((cuts_by {W = W} e).keep l).list) (nat_lt MOST_CUBES ((cuts_by {W = W} e).keep l).longest) refl

  pub by_parts : IsCutByParts (cut_by {W = W}) (whole_cubes W)
  by_parts es = ap (λ (c : Cuts W). within_limit (c.keep (whole_of W ∷ []))) (cuts-All es) ∙ in_turn es (whole_of W ∷ []) (omega arith)
