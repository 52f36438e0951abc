-- What is reached from a rule on, by what is reached behind it.
use Rattle.std.specs.Prelude.{ℕ, ◌+◌, ◌≡◌, ◌↔◌, ◌⊎◌, Bool, true, false, List, [], ◌∷◌, ◌++◌, Option, None, Some, slice_get, refl}
use Rattle.std.proofs.Common.{subst, sym, inl, inr, true≢false}
use Rattle.match_expr.specs.Meaning.{eval_of}
use Rattle.fw_rule.specs.declared.rule.Verdict.{Verdict}
use Rattle.fw_rule.specs.declared.rule.Verdict.TheVariants.{Accept, Drop}
use Rattle.fw_rule.specs.declared.rule.Action.{Action}
use Rattle.fw_rule.specs.declared.rule.Rule.{Rule}
use Rattle.fw_rule.specs.declared.rule.Chain.{Chain}
use Rattle.fw_rule.specs.declared.rule.Dump.{Dump}
use Rattle.fw_rule.specs.Walk.{Path, State, At, Ended, Frame, target_of, known_of, doubt_in}
use Rattle.explain.specs.declared.reach.Reach.{Reach}
use Rattle.explain.specs.inner.Reaching.{match_of, better, through, by_verdict, by_action, by_match, is_reached, Leads, LeadsBack, ReachedBy, ReachIs}
use Rattle.fw_laws.specs.Frames.{step_of}
use Rattle.explain.proofs.Leading.{ended_leads, verdict_leads, LeadsActing, past_rules, leads_failing, leads_sure, leads_doubtful}

pub iff_trans : (A B C : Type 0) → A ↔ B → B ↔ C → A ↔ C
iff_trans A B C f g = (λ a. g.0 (f.0 a), λ c. f.1 (g.1 c))

module _ {P Packet : Type 0} (holds : P → Packet → Bool) (dump : Dump P) (p : Packet) where
  better_is : (policy : Option Verdict) (v : Verdict) (frames : List Frame) (A B : Type 0) (a b : Reach) →
      A ↔ ReachedBy holds dump p policy v a frames → B ↔ ReachedBy holds dump p policy v b frames → (A ⊎ B) ↔ ReachedBy holds dump p policy v (better a b) frames
  better_is policy v frames A B Reach.Inside b f g = (λ x. tt, λ x. inl (f.1 tt))
  better_is policy v frames A B Reach.PastEnd Reach.Inside f g = (λ x. tt, λ x. inr (g.1 tt))
  better_is policy v frames A B Reach.PastEnd Reach.PastEnd f g = (λ x. elim x [ inl y ↦ f.0 y | inr y ↦ g.0 y ], λ x. inl (f.1 x))
  better_is policy v frames A B Reach.PastEnd Reach.Never f g = (λ x. elim x [ inl y ↦ f.0 y | inr y ↦ absurd (g.0 y) ], λ x. inl (f.1 x))
  better_is policy v frames A B Reach.Never b f g = (λ x. elim x [ inl y ↦ absurd (f.0 y) | inr y ↦ g.0 y ], λ x. inr (g.1 x))

  module _ (policy : Option Verdict) (c next : ℕ) (path : Path) (frames : List Frame) where
    abbrev over : State
    over = At c (next + 1) path frames

    abbrev Acting : Verdict → Action → Type 0
    Acting v action = LeadsActing holds dump p policy v c next path frames action

    abbrev By : Verdict → Reach → Type 0
    By v r = ReachedBy holds dump p policy v r frames

    reaches : (v w : Verdict) → w ≡ v → (t : State) × (Some (Ended w) ≡ Some t) × Leads holds dump p policy v t
    reaches v w e = (Ended w, refl, verdict_leads holds dump p policy v w e)

    only_itself : (v w : Verdict) → (t : State) × (Some (Ended w) ≡ Some t) × Leads holds dump p policy v t → w ≡ v
    only_itself v w x = let e : x.0 ≡ Ended w = cc (x.1) in ended_leads holds dump p policy v w (subst (Leads holds dump p policy v) e x.2)

    ends : (v w : Verdict) → ((t : State) × (Some (Ended w) ≡ Some t) × Leads holds dump p policy v t) ↔ By v (by_verdict v w)
    ends Accept Accept = (λ x. tt, λ x. reaches Accept Accept refl)
    ends Drop Drop = (λ x. tt, λ x. reaches Drop Drop refl)
    ends Accept Drop = (λ x. let e : Drop ≡ Accept = only_itself Accept Drop x in cc, λ x. absurd x)
    ends Drop Accept = (λ x. let e : Accept ≡ Drop = only_itself Drop Accept x in cc, λ x. absurd x)

    -- to one state alone
    to_one : (v : Verdict) (s : State) → ((t : State) × (Some s ≡ Some t) × Leads holds dump p policy v t) ↔ Leads holds dump p policy v s
    to_one v s = (λ x. let e : x.0 ≡ s = cc (x.1) in subst (Leads holds dump p policy v) e x.2, λ l. (s, refl, l))

    calls : (v : Verdict) (k : ℕ) (callee behind : Reach) → ReachIs holds dump p v k 0 callee →
        Leads holds dump p policy v over ↔ By v behind → Acting v (Action.Call k) ↔ By v (through callee behind)
    calls v k callee behind is rest = by callee (iff_trans (Acting v (Action.Call k)) (Leads holds dump p policy v inner) (ReachedBy holds dump p policy v callee more) (to_one v inner) (is policy below more))
      where
        below : Path
        below = path ++ step_of c next ∷ []

        more : List Frame
        more = record { chain = c; next = next + 1; path = path } ∷ frames

        inner : State
        inner = At k 0 (path ++ step_of c next ∷ []) (record { chain = c; next = next + 1; path = path } ∷ frames)

        by : (r : Reach) → Acting v (Action.Call k) ↔ ReachedBy holds dump p policy v r more → Acting v (Action.Call k) ↔ By v (through r behind)
        by Reach.Inside f = f
        by Reach.PastEnd f = iff_trans (Acting v (Action.Call k)) (LeadsBack holds dump p policy v more) (By v behind) f (iff_trans (LeadsBack holds dump p policy v more) (Leads holds dump p policy v over) (By v behind) (to_one v over) rest)
        by Reach.Never f = f

    -- of a rule that is taken
    pub acting : (v : Verdict) (callee behind : Reach) (action : Action) →
        ((k : ℕ) → target_of action ≡ Some k → ReachIs holds dump p v k 0 callee) →
        Leads holds dump p policy v over ↔ By v behind → Acting v action ↔ By v (by_action v callee behind action)
    acting v callee behind Action.Accept there rest = ends v Accept
    acting v callee behind Action.Drop there rest = ends v Drop
    acting v callee behind Action.Pass there rest = iff_trans (Acting v Action.Pass) (Leads holds dump p policy v over) (By v behind) (to_one v over) rest
    acting v callee behind Action.Back there rest = (λ x. x, λ x. x)
    acting v callee behind (Action.Call k) there rest = calls v k callee behind (there k refl) rest
    acting v callee behind (Action.Goto k) there rest =
        let away : State = At k 0 (path ++ step_of c next ∷ []) frames in
        iff_trans (Acting v (Action.Goto k)) (Leads holds dump p policy v away) (By v callee) (to_one v away) (there k refl policy (path ++ step_of c next ∷ []) frames)
    acting v callee behind (Action.Other name) there rest = (λ x. let e : None ≡ Some x.0 = x.1 in cc, λ x. absurd x)

  module _ (v : Verdict) (c next : ℕ) (here : Chain P) (at_c : slice_get dump.chains c ≡ Some here) where
    -- past the last rule the chain's end is reached
    pub reach_past : slice_get here.rules next ≡ None → ReachIs holds dump p v c next Reach.PastEnd
    reach_past q policy path frames = past_rules holds dump p policy v c next path frames here at_c q

    -- one rule more
    pub reach_more : (rule : Rule P) → slice_get here.rules next ≡ Some rule → (callee behind : Reach) →
        ((k : ℕ) → target_of rule.action ≡ Some k → ReachIs holds dump p v k 0 callee) → ReachIs holds dump p v c (next + 1) behind →
        ReachIs holds dump p v c next (by_match (match_of (eval_of (λ x. holds x p) (known_of rule)) (doubt_in rule.lits)) (by_action v callee behind rule.action) behind)
    reach_more rule q callee behind there is policy path frames = by (eval_of (λ x. holds x p) (known_of rule)) (doubt_in rule.lits) refl refl
      where
        rest : Leads holds dump p policy v (At c (next + 1) path frames) ↔ ReachedBy holds dump p policy v behind frames
        rest = is policy path frames

        taken : LeadsActing holds dump p policy v c next path frames rule.action ↔ ReachedBy holds dump p policy v (by_action v callee behind rule.action) frames
        taken = acting policy c next path frames v callee behind rule.action there rest

        by : (k d : Bool) → eval_of (λ x. holds x p) (known_of rule) ≡ k → doubt_in rule.lits ≡ d →
            Leads holds dump p policy v (At c next path frames) ↔ ReachedBy holds dump p policy v (by_match (match_of (eval_of (λ x. holds x p) (known_of rule)) (doubt_in rule.lits)) (by_action v callee behind rule.action) behind) frames
        by false d e f = rw e (iff_trans (Leads holds dump p policy v (At c next path frames)) (Leads holds dump p policy v (At c (next + 1) path frames)) (ReachedBy holds dump p policy v behind frames)
            (leads_failing holds dump p policy v c next path frames here at_c rule q e) rest)
        by true false e f = rw (e, f) (iff_trans (Leads holds dump p policy v (At c next path frames)) (LeadsActing holds dump p policy v c next path frames rule.action)
            (ReachedBy holds dump p policy v (by_action v callee behind rule.action) frames) (leads_sure holds dump p policy v c next path frames here at_c rule q e f) taken)
        by true true e f = rw (e, f) (iff_trans (Leads holds dump p policy v (At c next path frames))
            (LeadsActing holds dump p policy v c next path frames rule.action ⊎ Leads holds dump p policy v (At c (next + 1) path frames))
            (ReachedBy holds dump p policy v (better (by_action v callee behind rule.action) behind) frames)
            (leads_doubtful holds dump p policy v c next path frames here at_c rule q (record { at_chain = at_c; at_rule = q; known = e; doubtful = f }))
            (better_is policy v frames (LeadsActing holds dump p policy v c next path frames rule.action) (Leads holds dump p policy v (At c (next + 1) path frames)) (by_action v callee behind rule.action) behind taken rest))

  -- whether it is reached, by whether it is from the chain's end on
  pub reached_is : (policy : Option Verdict) (v : Verdict) (frames : List Frame) (past_end : Bool) → ((past_end ≡ true) ↔ LeadsBack holds dump p policy v frames) → (r : Reach) →
      (is_reached r past_end ≡ true) ↔ ReachedBy holds dump p policy v r frames
  reached_is policy v frames past_end e Reach.Never = (λ x. true≢false (sym x), λ x. absurd x)
  reached_is policy v frames past_end e Reach.PastEnd = e
  reached_is policy v frames past_end e Reach.Inside = (λ x. tt, λ x. refl)
