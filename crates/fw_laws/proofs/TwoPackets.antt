-- Packets that the known literals don't tell apart have the same walks.
use Rattle.std.specs.Prelude.{ℕ, ◌≡◌, Bool, true, false, not, [], ◌∷◌, ◌++◌, Some, slice_get, refl}
use Rattle.std.proofs.Common.{sym, ap, ◌∙◌}
use Rattle.std.proofs.lemmas.List.{map-id}
use Rattle.match_expr.specs.declared.expr.Expr.{Expr}
use Rattle.match_expr.specs.Meaning.{eval_of}
use Rattle.fw_rule.specs.declared.rule.Verdict.{Verdict}
use Rattle.fw_rule.specs.declared.rule.Lit.{Lit}
use Rattle.fw_rule.specs.declared.rule.Rule.{Rule}
use Rattle.fw_rule.specs.declared.rule.Dump.{Dump}
use Rattle.fw_rule.specs.Walk.{Path, Meaning, At, known_holds, policy_of, Walks, RuleOf, Reaches}
use Rattle.fw_rule.proofs.Ends.{contains_at}
use Rattle.fw_laws.specs.Packets.{KnownAlike, SameWalk, SameAnswers}
use Rattle.fw_laws.proofs.Alike.{same_after}
use Rattle.fw_laws.proofs.Asked.{stands_reached, rule_of_at}
use Rattle.fw_laws.proofs.Literals.{HoldAlike, match_alike}

module _ {P Packet : Type 0} (holds : P → Packet → Bool) where
  known_alike : (p q : Packet) (neg : Bool) (expr : Expr P) → eval_of (λ x. holds x p) expr ≡ eval_of (λ x. holds x q) expr → known_holds holds p neg expr ≡ known_holds holds q neg expr
  known_alike p q true expr e = ap not e
  known_alike p q false expr e = e

  module _ (dump : Dump P) (asked : ℕ) where
    by_literal : (p q : Packet) → KnownAlike holds dump asked p q → (m : Meaning) (c : ℕ) (path : Path) (rule : Rule P) → Reaches dump asked c → RuleOf dump c rule →
        (i : ℕ) (lit : Lit P) → slice_get rule.lits i ≡ Some lit → HoldAlike holds p q m m path (λ x. x) i lit
    by_literal p q alike m c path rule r of i (Lit.Known neg expr) e = known_alike p q neg expr (alike c rule neg expr r of (contains_at rule.lits i (Lit.Known neg expr) e))
    by_literal p q alike m c path rule r of i (Lit.Unknown text) e = refl

    pub same_walk : (p q : Packet) → SameWalk holds dump asked p q
    same_walk p q alike m k = same_after holds dump dump p q m m (policy_of dump asked) refl k (At asked 0 [] []) (λ j c n path frames l e a b at_a at_b.
        let same : a ≡ b = cc in
        match_alike holds p q m m (path ++ record { chain = c; rule = n } ∷ []) (λ lit. lit) a b (ap (λ (x : Rule P). x.lits) (sym same) ∙ sym (map-id a.lits))
        (λ i lit s. by_literal p q alike m c (path ++ record { chain = c; rule = n } ∷ []) a (stands_reached dump asked holds p m (policy_of dump asked) j c n path frames e) (rule_of_at dump asked c n a at_a) i lit s))

    from_other : (p q : Packet) → KnownAlike holds dump asked p q → (m : Meaning) (v : Verdict) → Walks holds dump p m asked v → Walks holds dump q m asked v
    from_other p q alike m v h = (h.0, sym (same_walk p q alike m h.0) ∙ h.1)

    turned : (p q : Packet) → KnownAlike holds dump asked p q → KnownAlike holds dump asked q p
    turned p q alike c rule neg expr r of e = sym (alike c rule neg expr r of e)

    pub same_answers : (p q : Packet) → SameAnswers holds dump asked p q
    same_answers p q alike = (
      (λ h. (h.0, from_other p q alike h.0 Verdict.Accept h.1), λ h. (h.0, from_other q p (turned p q alike) h.0 Verdict.Accept h.1)),
      (λ h m. from_other p q alike m Verdict.Accept (h m), λ h m. from_other q p (turned p q alike) m Verdict.Accept (h m)),
    )
