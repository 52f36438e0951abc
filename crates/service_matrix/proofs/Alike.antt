-- An expression says the same of two packets that its tests don't tell apart.
use Rattle.std.proofs.Common.{◌≡◌, ℕ, zero, suc, Bool, not, List, [], ◌∷◌, ◌++◌, map, Contains, refl, sym, ◌∙◌, ap, subst, arith}
use Rattle.std.specs.List.{AllByRecursion}
use Rattle.basics.proofs.Lists.{each_contained, each_left, each_right}
use Rattle.match_expr.specs.declared.expr.Expr.{Expr, map-Expr, roll-Expr}
use Rattle.match_expr.specs.declared.expr.Expr.TheOpen.{Expr-F}
use Rattle.match_expr.specs.declared.expr.Expr.TheFolds.{fold-roll-Expr, ind-Expr}
use Rattle.match_expr.specs.Meaning.{every, eval_of, truth}
use Rattle.match_expr.specs.Primitives.{joined, listed, primitives_in}
use Rattle.fw_rule.specs.declared.rule.Dump.{Dump}
use Rattle.fw_laws.specs.Packets.{KnownAlike}
use Rattle.fw_laws.proofs.TwoPackets.{same_answers}
use Rattle.primitives.specs.declared.prim.Packet.{Packet}
use Rattle.primitives.specs.declared.prim.Prim_.{Prim_}
use Rattle.primitives.specs.Holds.{holds_of}
use Rattle.service_matrix.specs.Laws.{AreAnsweredAlike, PassAlike}

-- an expression depends on its primitives alone
module _ {P : Type 0} (f g : P → Bool) where
  abbrev E : Type 0
  E = Expr P

  abbrev Same : P → Type 0
  Same x = f x ≡ g x

  abbrev Kept : E → Type 0
  Kept e = AllByRecursion Same (primitives_in e) → eval_of f e ≡ eval_of g e

  each_part : (es : List ((e : E) × Kept e)) → AllByRecursion Same (joined (map primitives_in (map (λ e. e.0) es))) →
      every (map (eval_of f) (map (λ e. e.0) es)) ≡ every (map (eval_of g) (map (λ e. e.0) es))
  each_part [] h = refl
  each_part (e ∷ es) h =
      rw (e.1 (each_left Same (primitives_in e.0) (joined (map primitives_in (map (λ e. e.0) es))) h), each_part es (each_right Same (primitives_in e.0) (joined (map primitives_in (map (λ e. e.0) es))) h)) refl

  abbrev Layer : Expr-F P E → Type 0
  Layer z = AllByRecursion Same (listed (map-Expr P E (List P) primitives_in z)) → truth f (map-Expr P E Bool (eval_of f) z) ≡ truth g (map-Expr P E Bool (eval_of g) z)

  layer : (z : Expr-F P ((e : E) × Kept e)) → Layer (map-Expr P ((e : E) × Kept e) E (λ e. e.0) z)
  layer (Expr-F.All es) = each_part es
  layer (Expr-F.Not e) = λ h. ap not (e.1 h)
  layer (Expr-F.Prim x) = λ h. h.0

  pub eval_alike : (e : E) → Kept e
  eval_alike = ind-Expr P Kept (λ x y is.
      subst (λ t. AllByRecursion Same t → eval_of f (roll-Expr P x) ≡ eval_of g (roll-Expr P x)) (sym (fold-roll-Expr P (List P) listed x))
      (λ h. fold-roll-Expr P Bool (truth f) x ∙ subst Layer is (layer y) h ∙ sym (fold-roll-Expr P Bool (truth g) x)))

module _ {W : ℕ} (dump : Dump (Prim_ W)) (chain : ℕ) (p q : Packet) where
  known_alike : PassAlike dump chain p q → KnownAlike (holds_of {W = W}) dump chain p q
  known_alike alike c rule neg expr r there stood =
      eval_alike (λ x. holds_of x p) (λ x. holds_of x q) expr (each_contained (λ x. holds_of x p ≡ holds_of x q) (primitives_in expr) (λ x k. alike x (c, rule, neg, expr, r, there, stood, k)))

  pub answered_alike : AreAnsweredAlike dump chain p q
  answered_alike = record {
    may = λ alike. (same_answers holds_of dump chain p q (known_alike alike)).0;
    must = λ alike. (same_answers holds_of dump chain p q (known_alike alike)).1;
  }
