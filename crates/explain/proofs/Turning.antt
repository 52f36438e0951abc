-- What a step of a walk is: without a choice it is the same under each meaning, else the rule is passed over or taken.
use Rattle.std.specs.Prelude.{ℕ, ◌+◌, ◌≡◌, Bool, true, false, List, [], ◌∷◌, ◌++◌, Option, None, Some, slice_get, refl}
use Rattle.std.proofs.Common.{subst, sym, ap, ◌∙◌, true≢false}
use Rattle.std.proofs.lemmas.Option.{option_and_then_some}
use Rattle.match_expr.specs.Meaning.{eval_of}
use Rattle.fw_rule.specs.declared.rule.Verdict.{Verdict}
use Rattle.fw_rule.specs.declared.rule.Rule.{Rule}
use Rattle.fw_rule.specs.declared.rule.Chain.{Chain}
use Rattle.fw_rule.specs.declared.rule.Dump.{Dump}
use Rattle.fw_rule.specs.Walk.{Path, Meaning, State, At, Frame, act, step, step_at, matches, known_of, doubt_in}
use Rattle.fw_rule.proofs.Ends.{at_rule, matched, acted}
use Rattle.explain.specs.Choices.{HasChoice, NoChoice, unknown_places}
use Rattle.fw_laws.specs.Frames.{step_of}
use Rattle.explain.proofs.Literals.{known_is, sure, failing, taken}

module _ {P Packet : Type 0} (holds : P → Packet → Bool) (dump : Dump P) (p : Packet) (policy : Option Verdict) (c next : ℕ) (path : Path) (frames : List Frame) where
  abbrev from : State
  from = At c next path frames

  abbrev at : Path
  at = path ++ step_of c next ∷ []

  -- a rule that is passed over, and one that is taken
  pub over_step : (m : Meaning) (here : Chain P) (rule : Rule P) → HasChoice holds dump p c next here rule → matches holds p m at rule ≡ false →
      step holds dump p m policy from ≡ Some (At c (next + 1) path frames)
  over_step m here rule ch e = matched holds dump p m policy c here ch.at_chain next path frames rule false ch.at_rule e

  pub through_step : (m : Meaning) (here : Chain P) (rule : Rule P) → HasChoice holds dump p c next here rule → matches holds p m at rule ≡ true →
      step holds dump p m policy from ≡ act policy c next path frames rule.action
  through_step m here rule ch e = acted holds dump p m policy c here ch.at_chain next path frames rule rule.action ch.at_rule e refl

  -- the rule matches under the places of its own
  pub own_match : (rule : Rule P) → eval_of (λ x. holds x p) (known_of rule) ≡ true → matches holds p (unknown_places at 0 rule.lits) at rule ≡ true
  own_match rule k = taken holds p (unknown_places at 0 rule.lits) at 0 rule.lits (λ i e. e) (sym (known_is holds p rule) ∙ k)

  -- there is no other rule to choose at
  pub only_rule : (here h : Chain P) (rule r : Rule P) → slice_get dump.chains c ≡ Some here → slice_get here.rules next ≡ Some rule → HasChoice holds dump p c next h r → r ≡ rule
  only_rule here h rule r e q ch =
      let same : h ≡ here = cc (e, ch.at_chain) in
      let there : slice_get here.rules next ≡ Some r = subst (λ (z : Chain P). slice_get z.rules next ≡ Some r) same ch.at_rule in
      cc (there, q)

  pub no_rule : (here h : Chain P) (r : Rule P) → slice_get dump.chains c ≡ Some here → slice_get here.rules next ≡ None → HasChoice holds dump p c next h r → ⊥
  no_rule here h r e q ch =
      let same : h ≡ here = cc (e, ch.at_chain) in
      let there : slice_get here.rules next ≡ Some r = subst (λ (z : Chain P). slice_get z.rules next ≡ Some r) same ch.at_rule in
      let gone : None ≡ Some r = sym q ∙ there in cc

  -- where a known literal fails, or none is unknown, there is no choice
  pub none_failing : (here : Chain P) (rule : Rule P) → slice_get dump.chains c ≡ Some here → slice_get here.rules next ≡ Some rule →
      eval_of (λ x. holds x p) (known_of rule) ≡ false → NoChoice holds dump p from
  none_failing here rule e q k h r ch = true≢false (sym ch.known ∙ ap (λ (z : Rule P). eval_of (λ x. holds x p) (known_of z)) (only_rule here h rule r e q ch) ∙ k)

  pub none_sure : (here : Chain P) (rule : Rule P) → slice_get dump.chains c ≡ Some here → slice_get here.rules next ≡ Some rule → doubt_in rule.lits ≡ false → NoChoice holds dump p from
  none_sure here rule e q d h r ch = true≢false (sym ch.doubtful ∙ ap (λ (z : Rule P). doubt_in z.lits) (only_rule here h rule r e q ch) ∙ d)

  module _ (t : State) where
    pub data Turn : Type 0 where
      Plain : NoChoice holds dump p from → ((w : Meaning) → step holds dump p w policy from ≡ Some t) → Turn
      PassesOver : (here : Chain P) (rule : Rule P) → HasChoice holds dump p c next here rule → t ≡ At c (next + 1) path frames → Turn
      GoesThrough : (here : Chain P) (rule : Rule P) → HasChoice holds dump p c next here rule → act policy c next path frames rule.action ≡ Some t → Turn

    module _ (m : Meaning) (e : step holds dump p m policy from ≡ Some t) (here : Chain P) (at_c : slice_get dump.chains c ≡ Some here) where
      without_rule : slice_get here.rules next ≡ None → Turn
      without_rule q = Plain (λ h r ch. no_rule here h r at_c q ch) (λ w.
          at_rule holds dump p w policy c here at_c next path frames None q ∙ sym (at_rule holds dump p m policy c here at_c next path frames None q) ∙ e)

      module _ (rule : Rule P) (q : slice_get here.rules next ≡ Some rule) where
        alike : (w : Meaning) → matches holds p w at rule ≡ matches holds p m at rule → step holds dump p w policy from ≡ Some t
        alike w same = matched holds dump p w policy c here at_c next path frames rule (matches holds p m at rule) q same
            ∙ sym (matched holds dump p m policy c here at_c next path frames rule (matches holds p m at rule) q refl) ∙ e

        by_match : HasChoice holds dump p c next here rule → (b : Bool) → matches holds p m at rule ≡ b → Turn
        by_match ch true b = GoesThrough here rule ch (sym (through_step m here rule ch b) ∙ e)
        by_match ch false b = let o : Some (At c (next + 1) path frames) ≡ Some t = sym (over_step m here rule ch b) ∙ e in PassesOver here rule ch cc

        by_literals : (k d : Bool) → eval_of (λ x. holds x p) (known_of rule) ≡ k → doubt_in rule.lits ≡ d → Turn
        by_literals false d k_is d_is = Plain (none_failing here rule at_c q k_is) (λ w. alike w
            (failing holds p w at 0 rule.lits (sym (known_is holds p rule) ∙ k_is) ∙ sym (failing holds p m at 0 rule.lits (sym (known_is holds p rule) ∙ k_is))))
        by_literals true false k_is d_is =
            Plain (none_sure here rule at_c q d_is) (λ w. alike w (sure holds p w at 0 rule.lits d_is ∙ sym (sure holds p m at 0 rule.lits d_is)))
        by_literals true true k_is d_is = by_match (record { at_chain = at_c; at_rule = q; known = k_is; doubtful = d_is }) (matches holds p m at rule) refl

      by_rule : (o : Option (Rule P)) → slice_get here.rules next ≡ o → Turn
      by_rule None q = without_rule q
      by_rule (Some rule) q = by_literals rule q (eval_of (λ x. holds x p) (known_of rule)) (doubt_in rule.lits) refl refl

    pub turn : (m : Meaning) → step holds dump p m policy from ≡ Some t → Turn
    turn m e = option_and_then_some (λ (here : Chain P). step_at holds dump p m policy c next path frames (slice_get here.rules next)) (slice_get dump.chains c) t e
        (λ here at_c h. by_rule m e here at_c (slice_get here.rules next) refl)

    -- where there is no choice, what is a step under one meaning is one under each
    pub plain_step : (m w : Meaning) → NoChoice holds dump p from → step holds dump p m policy from ≡ Some t → step holds dump p w policy from ≡ Some t
    plain_step m w none e = by (turn m e)
      where
        by : Turn → step holds dump p w policy from ≡ Some t
        by (Plain n f) = f w
        by (PassesOver here rule ch q) = absurd (none here rule ch)
        by (GoesThrough here rule ch q) = absurd (none here rule ch)
