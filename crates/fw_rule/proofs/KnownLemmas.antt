-- The known part of a rule holds exactly where each known literal does.
use Rattle.std.specs.Prelude.{ℕ, zero, suc, ◌<◌, ◌≡◌, length, ◌↔◌, Bool, true, false, ◌&&◌, if◌then◌else◌, List, [], ◌∷◌, map, IsTrue, Contains, refl}
use Rattle.std.proofs.Common.{subst, sym, ◌∙◌, arith, get_or}
use Rattle.basics.proofs.Truths.{both_true}
use Rattle.match_expr.specs.Meaning.{eval_of, every}
use Rattle.match_expr.proofs.Equations.{eval-All, eval-Not}
use Rattle.match_expr.specs.declared.expr.Expr.{Expr}
use Rattle.match_expr.specs.declared.expr.Expr.TheVariants.{Not}
use Rattle.fw_rule.specs.declared.rule.Lit.{Lit}
use Rattle.fw_rule.specs.declared.rule.Rule.{Rule}
use Rattle.fw_rule.specs.Matching.{known_holds, known_in, known_of, EachKnownHolds}

module _ {P Packet : Type 0} (holds : P → Packet → Bool) (p : Packet) where
  abbrev h : P → Bool
  h = λ x. holds x p

  -- whether each of these known literals holds
  abbrev all_known : List (Lit P) → Bool
  all_known [] = true
  all_known (Lit.Known neg e ∷ lits) = known_holds holds p neg e && all_known lits
  all_known (Lit.Unknown text ∷ lits) = all_known lits

  part_holds : (neg : Bool) (e : Expr P) → eval_of h (if neg then Not e else e) ≡ known_holds holds p neg e
  part_holds true e = eval-Not h e
  part_holds false e = refl

  parts_hold : (lits : List (Lit P)) → every (map (eval_of h) (known_in lits)) ≡ all_known lits
  parts_hold [] = refl
  parts_hold (Lit.Known neg e ∷ lits) = rw (part_holds neg e, parts_hold lits) refl
  parts_hold (Lit.Unknown text ∷ lits) = parts_hold lits

  first : (lit : Lit P) (lits : List (Lit P)) (neg : Bool) (e : Expr P) → lit ≡ Lit.Known neg e → all_known (lit ∷ lits) ≡ true → known_holds holds p neg e ≡ true
  first lit lits neg e same t =
      (both_true (known_holds holds p neg e) (all_known lits) (subst (λ (z : Lit P). all_known (z ∷ lits) ≡ true) same t)).0

  later : (lit : Lit P) (lits : List (Lit P)) → all_known (lit ∷ lits) ≡ true → all_known lits ≡ true
  later (Lit.Known neg e) lits t = (both_true (known_holds holds p neg e) (all_known lits) t).1
  later (Lit.Unknown text) lits t = t

  each_holds : (lits : List (Lit P)) (k : ℕ) (neg : Bool) (e : Expr P) → k < length lits → get_or lits k (Lit.Known neg e) ≡ Lit.Known neg e → all_known lits ≡ true →
      known_holds holds p neg e ≡ true
  each_holds [] k neg e less is t = absurd (omega (arith, less))
  each_holds (lit ∷ lits) zero neg e less is t = first lit lits neg e is t
  each_holds (lit ∷ lits) (suc k) neg e less is t = each_holds lits k neg e (omega arith) is (later lit lits t)

  abbrev Each : List (Lit P) → Type 0
  Each lits = (neg : Bool) (e : Expr P) → Contains lits (Lit.Known neg e) → known_holds holds p neg e ≡ true

  behind : (lit : Lit P) (lits : List (Lit P)) → Each (lit ∷ lits) → Each lits
  behind lit lits f neg e c = f neg e (suc c.0, omega (arith, c.1), c.2)

  all_hold : (lits : List (Lit P)) → Each lits → all_known lits ≡ true
  all_hold [] f = refl
  all_hold (Lit.Known neg e ∷ lits) f = rw (f neg e (zero, omega arith, refl), all_hold lits (behind (Lit.Known neg e) lits f)) refl
  all_hold (Lit.Unknown text ∷ lits) f = all_hold lits (behind (Lit.Unknown text) lits f)

  known_is : (rule : Rule P) → eval_of h (known_of rule) ≡ all_known rule.lits
  known_is rule = eval-All h (known_in rule.lits) ∙ parts_hold rule.lits

  pub known_means : (rule : Rule P) → IsTrue (eval_of h (known_of rule)) ↔ EachKnownHolds holds p rule
  known_means rule = (
    λ t neg e c. each_holds rule.lits c.0 neg e c.1 c.2 (sym (known_is rule) ∙ t),
    λ f. known_is rule ∙ all_hold rule.lits f,
  )
