-- The cuts by an expression hold the packets of the list where the expression holds, or where it doesn't.
use Rattle.std.proofs.Common.{◌≡◌, ℕ, List, [], ◌∷◌, Bool, true, false, not, ◌&&◌, ◌||◌, map, refl, sym, ◌∙◌, ap, subst, arith}
use Rattle.basics.proofs.Truths.{and_assoc, and_one}
use Rattle.match_expr.specs.Meaning.{eval_of, every}
use Rattle.match_expr.specs.declared.expr.Expr.{Expr, map-Expr, roll-Expr}
use Rattle.match_expr.specs.declared.expr.Expr.TheVariants.{All, Not, Prim, rolls-All, rolls-Not, rolls-Prim}
use Rattle.match_expr.specs.declared.expr.Expr.TheOpen.{Expr-F}
use Rattle.match_expr.specs.declared.expr.Expr.TheFolds.{fold-roll-Expr, ind-Expr}
use Rattle.match_expr.specs.Meaning.{truth}
use Rattle.primitives.specs.declared.prim.Packet.{Packet}
use Rattle.primitives.specs.declared.prim.Prim_.{Prim_}
use Rattle.primitives.specs.Holds.{holds_of, IsValid}
use Rattle.box_norm.specs.declared.cube.Cube.{Cube}
use Rattle.box_norm.specs.Cubes.{holds_cube, any_holds, each_piece}
use Rattle.box_norm.specs.Pieces.{cut_pieces, omit_pieces}
use Rattle.std.specs.Prelude.{Result, Ok, Err, IfOk}
use Rattle.box_norm.specs.declared.cube.CubeFault.{CubeFault}
use Rattle.box_norm.specs.Cuts.{Answers, Work, Cuts, keep_all, omit_all, cuts_step, cuts_by}
use Rattle.box_norm.proofs.PieceLaws.{any_append, cut_holds, omit_holds}

-- the equations of the fold
pub cuts-All : {W : ℕ} (es : List (Expr (Prim_ W))) → cuts_by (All es) ≡ cuts_step (Expr-F.All (map (cuts_by {W = W}) es))
cuts-All {W} es = ap (cuts_by {W = W}) (sym (rolls-All es)) ∙ fold-roll-Expr (Prim_ W) (Cuts W) (cuts_step {W = W}) (Expr-F.All es)

pub cuts-Not : {W : ℕ} (e : Expr (Prim_ W)) → cuts_by (Not e) ≡ cuts_step (Expr-F.Not (cuts_by {W = W} e))
cuts-Not {W} e = ap (cuts_by {W = W}) (sym (rolls-Not e)) ∙ fold-roll-Expr (Prim_ W) (Cuts W) (cuts_step {W = W}) (Expr-F.Not e)

pub cuts-Prim : {W : ℕ} (x : Prim_ W) → cuts_by (Prim x) ≡ cuts_step {W = W} (Expr-F.Prim x)
cuts-Prim {W} x = ap (cuts_by {W = W}) (sym (rolls-Prim x)) ∙ fold-roll-Expr (Prim_ W) (Cuts W) (cuts_step {W = W}) (Expr-F.Prim x)

-- the cuts keep what they are to keep, at one packet
pub record Keeps {W : ℕ} (p : Packet) (t : Bool) (cuts : Cuts W) : Type 0 where
  pub keep : (l : List (Cube W)) → any_holds (cuts.keep l).list p ≡ (any_holds l p && t)
  pub omit : (l : List (Cube W)) → any_holds (cuts.omit l).list p ≡ (any_holds l p && not t)

joined : (a b x y t : Bool) → a ≡ (x && t) → b ≡ (y && t) → (a || b) ≡ ((x || y) && t)
joined a b x y t e f = grind (arith, e, f)

each_holds : {W : ℕ} (p : Packet) (t : Bool) (f : Cube W → List (Cube W)) → ((c : Cube W) → any_holds (f c) p ≡ (holds_cube c p && t)) → (l : List (Cube W)) →
    any_holds (each_piece f l) p ≡ (any_holds l p && t)
each_holds p t f h [] = refl
each_holds p t f h (c ∷ cs) = any_append (f c) (each_piece f cs) p ∙ joined (any_holds (f c) p) (any_holds (each_piece f cs) p) (holds_cube c p) (any_holds cs p) t (h c) (each_holds p t f h cs)

-- each of the cuts, with the truth of its part
abbrev pub AllKeep : {W : ℕ} → Packet → List Bool → List (Cuts W) → Type 0
AllKeep p [] [] = Unit {0}
AllKeep p [] (e ∷ es) = ⊥
AllKeep p (t ∷ ts) [] = ⊥
AllKeep p (t ∷ ts) (e ∷ es) = Keeps p t e × AllKeep p ts es

and_none : (a : Bool) → false ≡ (a && false)
and_none true = refl
and_none false = refl

keeps_all : {W : ℕ} (p : Packet) (ts : List Bool) (es : List (Cuts W)) → AllKeep p ts es → (l : List (Cube W)) → any_holds (keep_all es l).list p ≡ (any_holds l p && every ts)
keeps_all p [] [] h l = and_one (any_holds l p)
keeps_all p [] (e ∷ es) h l = absurd h
keeps_all p (t ∷ ts) [] h l = absurd h
keeps_all p (t ∷ ts) (e ∷ es) h l =
    keeps_all p ts es h.1 (e.keep l).list ∙ ap (λ b. b && every ts) (h.0.keep l) ∙ and_assoc (any_holds l p) t (every ts)

split : (a b l t s : Bool) → a ≡ (l && not t) → b ≡ ((l && t) && not s) → (a || b) ≡ (l && not (t && s))
split a b l t s e f = grind (arith, e, f)

omits_all : {W : ℕ} (p : Packet) (ts : List Bool) (es : List (Cuts W)) → AllKeep p ts es → (l : List (Cube W)) → any_holds (omit_all es l).list p ≡ (any_holds l p && not (every ts))
omits_all p [] [] h l = and_none (any_holds l p)
omits_all p [] (e ∷ es) h l = absurd h
omits_all p (t ∷ ts) [] h l = absurd h
omits_all p (t ∷ ts) (e ∷ es) h l =
    any_append (e.omit l).list (omit_all es (e.keep l).list).list p ∙
    split (any_holds (e.omit l).list p) (any_holds (omit_all es (e.keep l).list).list p) (any_holds l p) t (every ts) (h.0.omit l)
    (omits_all p ts es h.1 (e.keep l).list ∙ ap (λ b. b && not (every ts)) (h.0.keep l))

not_not : (b : Bool) → b ≡ not (not b)
not_not true = refl
not_not false = refl

all_keep : {W : ℕ} (p : Packet) (es : List ((e : Expr (Prim_ W)) × Keeps p (eval_of (λ x. holds_of x p) e) (cuts_by e))) →
    AllKeep p (map (eval_of (λ x. holds_of x p)) (map (λ e. e.0) es)) (map (cuts_by {W = W}) (map (λ e. e.0) es))
all_keep p [] = tt
all_keep p (e ∷ es) = (e.1, all_keep p es)

-- one level
module _ (W : ℕ) (p : Packet) (v : IsValid W p) where
  abbrev E : Type 0
  E = Expr (Prim_ W)

  abbrev test : Prim_ W → Bool
  test x = holds_of x p

  abbrev Kept : E → Type 0
  Kept e = Keeps p (eval_of test e) (cuts_by {W = W} e)

  abbrev Layer : Expr-F (Prim_ W) E → Type 0
  Layer z = Keeps p (truth test (map-Expr (Prim_ W) E Bool (eval_of test) z)) (cuts_step (map-Expr (Prim_ W) E (Cuts W) (cuts_by {W = W}) z))

  layer : (z : Expr-F (Prim_ W) ((e : E) × Kept e)) → Layer (map-Expr (Prim_ W) ((e : E) × Kept e) E (λ e. e.0) z)
  layer (Expr-F.All es) = record {
    keep = λ l. keeps_all p (map (eval_of test) (map (λ e. e.0) es)) (map (cuts_by {W = W}) (map (λ e. e.0) es)) (all_keep p es) l;
    omit = λ l. omits_all p (map (eval_of test) (map (λ e. e.0) es)) (map (cuts_by {W = W}) (map (λ e. e.0) es)) (all_keep p es) l;
  }
  layer (Expr-F.Not e) = record {
    keep = e.1.omit;
    omit = λ l. e.1.keep l ∙ ap (λ b. any_holds l p && b) (not_not (eval_of test e.0));
  }
  layer (Expr-F.Prim x) = record {
    keep = λ l. each_holds p (test x) (cut_pieces x) (λ c. cut_holds x c p v) l;
    omit = λ l. each_holds p (not (test x)) (omit_pieces x) (λ c. omit_holds x c p v) l;
  }

  -- what `cut` and `cut_not` keep, at one valid packet
  pub cuts_keep : (e : E) → Kept e
  cuts_keep = ind-Expr (Prim_ W) Kept (λ x y is.
      subst (λ t. Keeps p t (cuts_by {W = W} (roll-Expr (Prim_ W) x))) (sym (fold-roll-Expr (Prim_ W) Bool (truth test) x))
      (subst (λ c. Keeps p (truth test (map-Expr (Prim_ W) E Bool (eval_of test) x)) c) (sym (fold-roll-Expr (Prim_ W) (Cuts W) (cuts_step {W = W}) x))
      (subst Layer is (layer y))))

-- from what a cut answers to what is kept
pub answers_packets : (W : ℕ) (work : Work W) (r : Result (List (Cube W)) CubeFault) (Q : List (Cube W) → Type 0) → ((l : List (Cube W)) → l ≡ work.list → Q l) → Answers work r → IfOk r Q
answers_packets W work (Ok l) Q f a = f l a.0
answers_packets W work (Err e) Q f a = tt
