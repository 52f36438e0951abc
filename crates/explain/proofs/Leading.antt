-- Where choices can lead from a rule.
use Rattle.std.specs.Prelude.{ℕ, ◌+◌, ◌≡◌, ◌↔◌, ◌⊎◌, Bool, true, false, List, [], ◌∷◌, ◌++◌, Option, None, Some, slice_get, refl}
use Rattle.std.proofs.Common.{subst, sym, ap, ◌∙◌, inl, inr}
use Rattle.match_expr.specs.Meaning.{eval_of}
use Rattle.fw_rule.specs.declared.rule.Verdict.{Verdict}
use Rattle.fw_rule.specs.declared.rule.Action.{Action}
use Rattle.fw_rule.specs.declared.rule.Rule.{Rule}
use Rattle.fw_rule.specs.declared.rule.Chain.{Chain}
use Rattle.fw_rule.specs.declared.rule.Dump.{Dump}
use Rattle.fw_rule.specs.declared.rule.Place.{Place}
use Rattle.fw_rule.specs.Walk.{Path, State, At, Ended, Frame, act, back, step, known_of, doubt_in}
use Rattle.fw_rule.proofs.Ends.{at_rule, matched, acted}
use Rattle.explain.specs.Choices.{HasChoice, NoChoice, unknown_places}
use Rattle.explain.specs.inner.Reaching.{Goes, Arrived, Stepped, Passed, Taken, Leads, LeadsBack}
use Rattle.fw_laws.specs.Frames.{step_of}
use Rattle.explain.proofs.Literals.{known_is, sure, failing}
use Rattle.explain.proofs.Turning.{only_rule, no_rule, none_failing, none_sure}

-- a verdict leads to itself alone
from_ended : {P Packet : Type 0} (holds : P → Packet → Bool) (dump : Dump P) (p : Packet) (policy : Option Verdict) (v : Verdict) (s : State) (places : List Place) → Goes holds dump p policy v s places → (w : Verdict) → s ≡ Ended w →
    w ≡ v
from_ended holds dump p policy v s places Arrived w e = cc
from_ended holds dump p policy v s places (Stepped {t = t} none e g) w q = let o : None ≡ Some t = subst (λ (z : State). step holds dump p [] policy z ≡ Some t) q e in cc
from_ended holds dump p policy v s places (Passed here rule ch g) w q = cc
from_ended holds dump p policy v s places (Taken here rule ch e g) w q = cc

pub ended_leads : {P Packet : Type 0} (holds : P → Packet → Bool) (dump : Dump P) (p : Packet) (policy : Option Verdict) (v w : Verdict) → Leads holds dump p policy v (Ended w) → w ≡ v
ended_leads holds dump p policy v w l = from_ended holds dump p policy v (Ended w) l.0 l.1 w refl

pub verdict_leads : {P Packet : Type 0} (holds : P → Packet → Bool) (dump : Dump P) (p : Packet) (policy : Option Verdict) (v w : Verdict) → w ≡ v → Leads holds dump p policy v (Ended w)
verdict_leads holds dump p policy v w e = subst (λ (z : Verdict). Leads holds dump p policy v (Ended z)) (sym e) ([], Arrived)

module _ {P Packet : Type 0} (holds : P → Packet → Bool) (dump : Dump P) (p : Packet) (policy : Option Verdict) (v : Verdict) (c next : ℕ) (path : Path) (frames : List Frame) where
  abbrev from : State
  from = At c next path frames

  abbrev over : State
  over = At c (next + 1) path frames

  abbrev LeadsFrom : State → Type 0
  LeadsFrom = Leads holds dump p policy v

  -- what a rule that is taken leads to
  abbrev pub LeadsActing : Action → Type 0
  LeadsActing action = (t : State) × (act policy c next path frames action ≡ Some t) × Leads holds dump p policy v t

  -- the three ways on
  pub data Onward : Type 0 where
    ByStep : NoChoice holds dump p from → (t : State) → step holds dump p [] policy from ≡ Some t → LeadsFrom t → Onward
    ByPass : (here : Chain P) (rule : Rule P) → HasChoice holds dump p c next here rule → LeadsFrom over → Onward
    ByTake : (here : Chain P) (rule : Rule P) → HasChoice holds dump p c next here rule → LeadsActing rule.action → Onward

  onward : (places : List Place) → Goes holds dump p policy v (At c next path frames) places → Onward
  onward places (Stepped {t = t} {places = rest} none e g) = ByStep none t e (rest, g)
  onward places (Passed {places = rest} here rule ch g) = ByPass here rule ch (rest, g)
  onward places (Taken {t = t} {places = rest} here rule ch e g) = ByTake here rule ch (t, e, (rest, g))

  by_step : (t : State) → NoChoice holds dump p from → step holds dump p [] policy from ≡ Some t → LeadsFrom t → LeadsFrom from
  by_step t none e l = (l.0, Stepped none e l.1)

  module _ (here : Chain P) (at_c : slice_get dump.chains c ≡ Some here) where
    -- past the last rule
    pub past_rules : slice_get here.rules next ≡ None → LeadsFrom from ↔ LeadsBack holds dump p policy v frames
    past_rules q = (λ l. by (onward l.0 l.1), λ b. by_step b.0 (λ h r ch. no_rule holds dump p policy c next path frames here h r at_c q ch) (goes ∙ b.1) b.2)
      where
        goes : step holds dump p [] policy from ≡ back policy frames
        goes = at_rule holds dump p [] policy c here at_c next path frames None q

        by : Onward → LeadsBack holds dump p policy v frames
        by (ByStep none t e l) = (t, sym goes ∙ e, l)
        by (ByPass h r ch l) = absurd (no_rule holds dump p policy c next path frames here h r at_c q ch)
        by (ByTake h r ch l) = absurd (no_rule holds dump p policy c next path frames here h r at_c q ch)

    module _ (rule : Rule P) (q : slice_get here.rules next ≡ Some rule) where
      -- a known literal fails
      pub leads_failing : eval_of (λ x. holds x p) (known_of rule) ≡ false → LeadsFrom from ↔ LeadsFrom over
      leads_failing k = (λ l. by (onward l.0 l.1), λ l. by_step over none goes l)
        where
          none : NoChoice holds dump p from
          none = none_failing holds dump p policy c next path frames here rule at_c q k

          goes : step holds dump p [] policy from ≡ Some over
          goes = matched holds dump p [] policy c here at_c next path frames rule false q (failing holds p [] (path ++ step_of c next ∷ []) 0 rule.lits (sym (known_is holds p rule) ∙ k))

          by : Onward → LeadsFrom over
          by (ByStep n t e l) = let o : Some over ≡ Some t = sym goes ∙ e in let same : t ≡ over = cc in subst LeadsFrom same l
          by (ByPass h r ch l) = absurd (none h r ch)
          by (ByTake h r ch l) = absurd (none h r ch)

      -- the rule matches under each meaning
      pub leads_sure : eval_of (λ x. holds x p) (known_of rule) ≡ true → doubt_in rule.lits ≡ false → LeadsFrom from ↔ LeadsActing rule.action
      leads_sure k d = (λ l. by (onward l.0 l.1), λ a. by_step a.0 none (goes ∙ a.1) a.2)
        where
          none : NoChoice holds dump p from
          none = none_sure holds dump p policy c next path frames here rule at_c q d

          goes : step holds dump p [] policy from ≡ act policy c next path frames rule.action
          goes = acted holds dump p [] policy c here at_c next path frames rule rule.action q (sure holds p [] (path ++ step_of c next ∷ []) 0 rule.lits d ∙ sym (known_is holds p rule) ∙ k) refl

          by : Onward → LeadsActing rule.action
          by (ByStep n t e l) = (t, sym goes ∙ e, l)
          by (ByPass h r ch l) = absurd (none h r ch)
          by (ByTake h r ch l) = absurd (none h r ch)

      -- there is a choice
      pub leads_doubtful : HasChoice holds dump p c next here rule → LeadsFrom from ↔ (LeadsActing rule.action ⊎ LeadsFrom over)
      leads_doubtful ch = (λ l. by (onward l.0 l.1), to)
        where
          by : Onward → LeadsActing rule.action ⊎ LeadsFrom over
          by (ByStep none t e l) = absurd (none here rule ch)
          by (ByPass h r other l) = inr l
          by (ByTake h r other l) =
              let actions : r.action ≡ rule.action = ap (λ (z : Rule P). z.action) (only_rule holds dump p policy c next path frames here h rule r at_c q other) in
              inl (subst LeadsActing actions l)

          to : LeadsActing rule.action ⊎ LeadsFrom over → LeadsFrom from
          to (inl a) = (unknown_places (path ++ step_of c next ∷ []) 0 rule.lits ++ (a.2).0, Taken here rule ch a.1 (a.2).1)
          to (inr l) = (l.0, Passed here rule ch l.1)
