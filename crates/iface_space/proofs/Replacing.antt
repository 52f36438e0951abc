-- A test in place of another that says the same of a packet changes nothing for it.
use Rattle.std.proofs.Common.{ℕ, ◌+◌, ◌≡◌, ◌&&◌, Bool, not, List, [], ◌∷◌, map, refl, sym, ap, ap₂, ◌∙◌}
use Rattle.std.specs.Prelude.{Option, None, Some, if◌then◌else◌}
use Rattle.std.specs.Option.{option_map}
use Rattle.std.proofs.lemmas.Option.{same_Some}
use Rattle.match_expr.specs.declared.expr.Expr.{Expr}
use Rattle.match_expr.specs.Meaning.{eval_of}
use Rattle.match_expr.proofs.Equations.{eval-Prim}
use Rattle.fw_rule.specs.declared.rule.Lit.{Lit}
use Rattle.fw_rule.specs.declared.rule.Rule.{Rule}
use Rattle.fw_rule.specs.declared.rule.Place.{Place}
use Rattle.fw_rule.specs.declared.rule.Dump.{Dump}
use Rattle.fw_rule.specs.Walk.{Path, Meaning, literal_holds, literals_hold, matches, mapped_rule}
use Rattle.fw_laws.specs.Shape.{MatchAlike, rule_at}
use Rattle.fw_laws.proofs.Alike.{same_may, same_must}
use Rattle.fw_laws.proofs.Mapping.{rule_at-mapped, shape_stays}
use Rattle.primitives.specs.Holds.{holds_of}
use Rattle.primitives.specs.declared.prim.Packet.{Packet}
use Rattle.primitives.specs.declared.prim.Prim_.{Prim_}
use Rattle.iface_space.specs.Replaced.{replaced_expr, replaced_literal, replaced, SameMay, SameMust}

module _ {W : ℕ} (image : Prim_ W → Prim_ W) (p : Packet) (same : (test : Prim_ W) → holds_of (image test) p ≡ holds_of test p) where
  expr_same : (expr : Expr (Prim_ W)) → eval_of (λ x. holds_of x p) (replaced_expr image expr) ≡ eval_of (λ x. holds_of x p) expr
  expr_same (Expr.Prim test) = eval-Prim (λ x. holds_of x p) (image test) ∙ same test ∙ sym (eval-Prim (λ x. holds_of x p) test)
  expr_same expr = refl

  literal_same : (m : Meaning) (place : Place) (lit : Lit (Prim_ W)) →
      literal_holds holds_of p m place (replaced_literal image lit) ≡ literal_holds holds_of p m place lit
  literal_same m place (Lit.Known neg expr) = ap (λ (b : Bool). if neg then not b else b) (expr_same expr)
  literal_same m place (Lit.Unknown text) = refl

  literals_same : (m : Meaning) (path : Path) (l : ℕ) (lits : List (Lit (Prim_ W))) →
      literals_hold holds_of p m path l (map (replaced_literal image) lits) ≡ literals_hold holds_of p m path l lits
  literals_same m path l [] = refl
  literals_same m path l (lit ∷ lits) =
      ap₂ (λ (a b : Bool). a && b) (literal_same m (record { steps = path; lit = l }) lit) (literals_same m path (l + 1) lits)

  rule_same : (m : Meaning) (path : Path) (o : Option (Rule (Prim_ W))) (a b : Rule (Prim_ W)) →
      option_map (mapped_rule (replaced_literal image)) o ≡ Some a → o ≡ Some b → matches holds_of p m path a ≡ matches holds_of p m path b
  rule_same m path None a b e f = absurd (cc)
  rule_same m path (Some r) a b e f =
      let x : mapped_rule (replaced_literal image) r ≡ a = same_Some _ _ e in
      let y : r ≡ b = same_Some _ _ f in
      ap (λ (rule : Rule (Prim_ W)). matches holds_of p m path rule) (sym x) ∙ literals_same m path 0 r.lits
      ∙ ap (λ (rule : Rule (Prim_ W)). matches holds_of p m path rule) y

  match_alike : (dump : Dump (Prim_ W)) (m : Meaning) → MatchAlike holds_of (replaced image dump) dump p m
  match_alike dump m chain n path a b e f =
      rule_same m path (rule_at dump chain n) a b (sym (rule_at-mapped (replaced_literal image) dump chain n) ∙ e) f

  pub may_stays : (dump : Dump (Prim_ W)) (chain : ℕ) → SameMay (replaced image dump) dump chain p
  may_stays dump chain = same_may holds_of (replaced image dump) dump p (sym (shape_stays dump (replaced_literal image))) (match_alike dump) chain

  pub must_stays : (dump : Dump (Prim_ W)) (chain : ℕ) → SameMust (replaced image dump) dump chain p
  must_stays dump chain = same_must holds_of (replaced image dump) dump p (sym (shape_stays dump (replaced_literal image))) (match_alike dump) chain
