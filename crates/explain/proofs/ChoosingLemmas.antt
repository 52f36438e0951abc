-- How the chosen walk goes on from rule to rule.
use Rattle.std.specs.Prelude.{ℕ, ◌+◌, ◌≡◌, ◌↔◌, Bool, true, false, List, [], ◌∷◌, ◌++◌, Option, None, Some, slice_get, refl}
use Rattle.std.proofs.Common.{subst, sym, ap, ◌∙◌, inl, inr, append_assoc, append-nil, true≢false}
use Rattle.match_expr.specs.Meaning.{eval_of}
use Rattle.fw_rule.specs.declared.rule.Verdict.{Verdict}
use Rattle.fw_rule.specs.declared.rule.Action.{Action}
use Rattle.fw_rule.specs.declared.rule.Lit.{Lit}
use Rattle.fw_rule.specs.declared.rule.Rule.{Rule}
use Rattle.fw_rule.specs.declared.rule.Chain.{Chain}
use Rattle.fw_rule.specs.declared.rule.Dump.{Dump}
use Rattle.fw_rule.specs.declared.rule.Place.{Place}
use Rattle.fw_rule.specs.Walk.{Path, State, At, Frame, act, back, step, known_of, doubt_in, outcome_of}
use Rattle.fw_rule.proofs.Ends.{at_rule, matched, acted}
use Rattle.explain.specs.declared.reach.Match.{Match}
use Rattle.explain.specs.declared.views.Sight.{Sight}
use Rattle.explain.specs.Choices.{Can, HasChoice, NoChoice, Steps, SkipsRule, TakesRule, ExplainsFrom, unknown_places}
use Rattle.explain.specs.inner.Reaching.{match_of, is_reached, Leads, LeadsBack}
use Rattle.explain.specs.inner.Views.{IsSight}
use Rattle.fw_laws.specs.Frames.{Fits, step_of}
use Rattle.fw_laws.proofs.Order.{still_fits}
use Rattle.explain.specs.inner.Choosing.{is_passed, Chooses, ChoosesIn, ChoosesUpTo, ChoosesTo}
use Rattle.explain.proofs.Literals.{known_is, sure, failing}
use Rattle.explain.proofs.Turning.{no_rule, none_failing, none_sure}
use Rattle.explain.proofs.Following.{follows, goes}
use Rattle.explain.proofs.Leading.{LeadsActing, past_rules, leads_failing, leads_sure, leads_doubtful}
use Rattle.explain.proofs.ReachLemmas.{reached_is}

-- a rule without an unknown literal has no places
no_places : {P : Type 0} (path : Path) (l : ℕ) (lits : List (Lit P)) → doubt_in lits ≡ false → unknown_places path l lits ≡ []
no_places path l [] d = refl
no_places path l (Lit.Known neg e ∷ lits) d = no_places path (l + 1) lits d
no_places path l (Lit.Unknown text ∷ lits) d = absurd (true≢false d)

module _ {P Packet : Type 0} (holds : P → Packet → Bool) (dump : Dump P) (p : Packet) (v : Verdict) where
  module _ (policy : Option Verdict) where
    -- what some choices lead to can be reached, and the other way round
    leads_can : (c next : ℕ) (path : Path) (frames : List Frame) → Fits path frames → Leads holds dump p policy v (At c next path frames) → Can holds dump p policy (At c next path frames) v
    leads_can c next path frames fits l = let f = follows holds dump p policy v (At c next path frames) l.0 l.1 fits [] tt in (l.0, f.0, f.1)

    can_leads : (s : State) → Can holds dump p policy s v → Leads holds dump p policy v s
    can_leads s c = goes holds dump p policy v c.0 c.1 s c.2

    pub chooses_nothing : (s : State) → Chooses holds dump p policy v s s []
    chooses_nothing s = record { leads = λ l. l; explains = λ more e. e }

    pub chooses_both : (s t u : State) (a b : List Place) → Chooses holds dump p policy v s t a → Chooses holds dump p policy v t u b → Chooses holds dump p policy v s u (a ++ b)
    chooses_both s t u a b x y = record {
      leads = λ l. y.leads (x.leads l);
      explains = λ more e. subst (λ (z : List Place). ExplainsFrom holds dump p policy v s z) (sym (append_assoc a b more)) (x.explains (b ++ more) (y.explains more e));
    }

    -- a step without a choice
    by_step : (s t : State) → NoChoice holds dump p s → step holds dump p [] policy s ≡ Some t → (Leads holds dump p policy v s → Leads holds dump p policy v t) → Chooses holds dump p policy v s t []
    by_step s t none e f = record { leads = f; explains = λ more g. Steps none e g }

    module _ (c next : ℕ) (path : Path) (frames : List Frame) (fits : Fits path frames) (here : Chain P) (at_c : slice_get dump.chains c ≡ Some here) where
      abbrev from : State
      from = At c next path frames

      abbrev over : State
      over = At c (next + 1) path frames

      abbrev at : Path
      at = path ++ step_of c next ∷ []

      -- past the last rule
      pub chooses_end : slice_get here.rules next ≡ None → (t : State) → back policy frames ≡ Some t → Chooses holds dump p policy v from t []
      chooses_end q t e =
          let goes_back : step holds dump p [] policy from ≡ Some t = at_rule holds dump p [] policy c here at_c next path frames None q ∙ e in
          by_step from t (λ h r ch. no_rule holds dump p policy c next path frames here h r at_c q ch) goes_back
          (λ l. let b = (past_rules holds dump p policy v c next path frames here at_c q).0 l in
          let same : b.0 ≡ t = cc (b.1, e) in subst (Leads holds dump p policy v) same b.2)

      module _ (rule : Rule P) (q : slice_get here.rules next ≡ Some rule) where
        abbrev known : Bool
        known = eval_of (λ x. holds x p) (known_of rule)

        abbrev doubt : Bool
        doubt = doubt_in rule.lits

        the_choice : known ≡ true → doubt ≡ true → HasChoice holds dump p c next here rule
        the_choice k d = record { at_chain = at_c; at_rule = q; known = k; doubtful = d }

        abbrev Reached : Bool → Type 0
        Reached reached = (reached ≡ true) ↔ Leads holds dump p policy v over

        failing_on : known ≡ false → Chooses holds dump p policy v from over []
        failing_on k = by_step from over (none_failing holds dump p policy c next path frames here rule at_c q k)
            (matched holds dump p [] policy c here at_c next path frames rule false q (failing holds p [] at 0 rule.lits (sym (known_is holds p rule) ∙ k)))
            ((leads_failing holds dump p policy v c next path frames here at_c rule q k).0)

        passing_on : known ≡ true → doubt ≡ true → Leads holds dump p policy v over → Chooses holds dump p policy v from over []
        passing_on k d l = record {
          leads = λ x. l;
          explains = λ more g. SkipsRule here rule (the_choice k d) (leads_can c (next + 1) path frames fits l) g;
        }

        -- a rule that is passed over
        pub chooses_over : (reached : Bool) → Reached reached → is_passed (match_of known doubt) reached ≡ true → Chooses holds dump p policy v from over []
        chooses_over reached r e = by known doubt refl refl
          where
            by : (k d : Bool) → known ≡ k → doubt ≡ d → Chooses holds dump p policy v from over []
            by false d f g = failing_on f
            by true false f g = let x : false ≡ true = rw (f, g) at e in absurd (true≢false (sym x))
            by true true f g = let x : reached ≡ true = rw (f, g) at e in passing_on f g (r.0 x)

        acting_to : (t : State) → act policy c next path frames rule.action ≡ Some t → LeadsActing holds dump p policy v c next path frames rule.action → Leads holds dump p policy v t
        acting_to t e a = let same : a.0 ≡ t = cc (a.1, e) in subst (Leads holds dump p policy v) same a.2

        sure_on : (t : State) → act policy c next path frames rule.action ≡ Some t → known ≡ true → doubt ≡ false → Chooses holds dump p policy v from t []
        sure_on t e k d = by_step from t (none_sure holds dump p policy c next path frames here rule at_c q d)
            (acted holds dump p [] policy c here at_c next path frames rule rule.action q (sure holds p [] at 0 rule.lits d ∙ sym (known_is holds p rule) ∙ k) refl ∙ e)
            (λ l. acting_to t e ((leads_sure holds dump p policy v c next path frames here at_c rule q k d).0 l))

        taking_on : (t : State) → act policy c next path frames rule.action ≡ Some t → known ≡ true → doubt ≡ true → (Leads holds dump p policy v over → ⊥) →
            Chooses holds dump p policy v from t (unknown_places at 0 rule.lits)
        taking_on t e k d never = record {
          leads = λ l. elim ((leads_doubtful holds dump p policy v c next path frames here at_c rule q (the_choice k d)).0 l) [ inl a ↦ acting_to t e a | inr x ↦ absurd (never x) ];
          explains = λ more g. TakesRule here rule (the_choice k d) (λ can. never (can_leads over can)) e g;
        }

        -- a rule that is taken
        pub chooses_through : (reached : Bool) → Reached reached → is_passed (match_of known doubt) reached ≡ false → (t : State) → act policy c next path frames rule.action ≡ Some t →
            Chooses holds dump p policy v from t (unknown_places at 0 rule.lits)
        chooses_through reached r e t a = by known doubt refl refl
          where
            by : (k d : Bool) → known ≡ k → doubt ≡ d → Chooses holds dump p policy v from t (unknown_places at 0 rule.lits)
            by false d f g = let x : true ≡ false = rw f at e in absurd (true≢false x)
            by true false f g = subst (λ (z : List Place). Chooses holds dump p policy v from t z) (sym (no_places at 0 rule.lits g)) (sure_on t a f g)
            by true true f g = let x : reached ≡ false = rw (f, g) at e in taking_on t a f g (λ l. true≢false (sym (r.1 l) ∙ x))

  -- before the first rule
  pub up_to_start : (c : ℕ) (path : Path) (past_end : Bool) → ChoosesUpTo holds dump p v c 0 path past_end []
  up_to_start c path past_end here at_c policy frames fits e t is = subst (λ (z : State). Chooses holds dump p policy v (At c 0 path frames) z []) (sym is) (chooses_nothing policy (At c 0 path frames))

  -- what the chosen walk does at the rule `next`, as its sight says
  module _ (c next : ℕ) (path : Path) (past_end : Bool) (places : List Place) (before : ChoosesUpTo holds dump p v c next path past_end places) where
    abbrev PastEnd : Option Verdict → List Frame → Type 0
    PastEnd policy frames = (past_end ≡ true) ↔ LeadsBack holds dump p policy v frames

    pub start_here : (here : Chain P) → slice_get dump.chains c ≡ Some here → (policy : Option Verdict) (frames : List Frame) → Fits path frames → PastEnd policy frames →
        Chooses holds dump p policy v (At c 0 path frames) (At c next path frames) places
    start_here here at_c policy frames fits e = before here at_c policy frames fits e (At c next path frames) refl

    -- past the last rule
    pub up_to_end : ((here : Chain P) → slice_get dump.chains c ≡ Some here → slice_get here.rules next ≡ None) → ChoosesTo holds dump p v c path past_end (places ++ []) None
    up_to_end q here at_c policy frames fits e t is =
        chooses_both policy (At c 0 path frames) (At c next path frames) t places [] (start_here here at_c policy frames fits e) (chooses_end policy c next path frames fits here at_c (q here at_c) t is)

    module _ (sight : Sight) (rule : Rule P) (at_rule : (here : Chain P) → slice_get dump.chains c ≡ Some here → slice_get here.rules next ≡ Some rule) (is : IsSight holds dump p v c next sight) where
      abbrev reached : Bool
      reached = is_reached sight.behind past_end

      abbrev spot : Path
      spot = path ++ step_of c next ∷ []

      behind_is : (here : Chain P) → slice_get dump.chains c ≡ Some here → (policy : Option Verdict) (frames : List Frame) → PastEnd policy frames → (reached ≡ true) ↔ Leads holds dump p policy v (At c (next + 1) path frames)
      behind_is here at_c policy frames e =
          let r = reached_is holds dump p policy v frames past_end e sight.behind in
          let l = (is here rule at_c (at_rule here at_c)).1 policy path frames in
          (λ x. l.1 (r.0 x), λ x. r.1 (l.0 x))

      matching_is : (here : Chain P) → slice_get dump.chains c ≡ Some here → (b : Bool) → is_passed sight.matching reached ≡ b →
          is_passed (match_of (eval_of (λ x. holds x p) (known_of rule)) (doubt_in rule.lits)) reached ≡ b
      matching_is here at_c b e = ap (λ (m : Match). is_passed m reached) (sym (is here rule at_c (at_rule here at_c)).0) ∙ e

      -- a rule is passed over
      pub up_to_next : is_passed sight.matching reached ≡ true → ChoosesUpTo holds dump p v c (next + 1) path past_end places
      up_to_next passed here at_c policy frames fits e t t_is =
          let one = chooses_over policy c next path frames fits here at_c rule (at_rule here at_c) reached (behind_is here at_c policy frames e) (matching_is here at_c true passed) in
          let both = chooses_both policy (At c 0 path frames) (At c next path frames) (At c (next + 1) path frames) places [] (start_here here at_c policy frames fits e) one in
          subst (λ (z : State). Chooses holds dump p policy v (At c 0 path frames) z places) (sym t_is)
          (subst (λ (z : List Place). Chooses holds dump p policy v (At c 0 path frames) (At c (next + 1) path frames) z) (append-nil places) both)

      -- a rule is taken, and leads to this state
      pub up_to_act : is_passed sight.matching reached ≡ false →
          ChoosesIn holds dump p v c path past_end (places ++ unknown_places spot 0 rule.lits) (λ policy frames t. act policy c next path frames rule.action ≡ Some t)
      up_to_act taken here at_c policy frames fits e t a =
          chooses_both policy (At c 0 path frames) (At c next path frames) t places (unknown_places spot 0 rule.lits) (start_here here at_c policy frames fits e)
          (chooses_through policy c next path frames fits here at_c rule (at_rule here at_c) reached (behind_is here at_c policy frames e) (matching_is here at_c false taken) t a)

      module _ (taken : is_passed sight.matching reached ≡ false) where
        -- a verdict, or back
        pub up_to_outcome : (o : Option Verdict) (action : Action) → rule.action ≡ action → ((policy : Option Verdict) (frames : List Frame) → outcome_of o policy frames ≡ act policy c next path frames action) →
            ChoosesTo holds dump p v c path past_end (places ++ unknown_places spot 0 rule.lits) o
        up_to_outcome o action a same here at_c policy frames fits e t t_is = up_to_act taken here at_c policy frames fits e t (ap (act policy c next path frames) a ∙ sym (same policy frames) ∙ t_is)

        pub up_to_passing : rule.action ≡ Action.Pass → ChoosesUpTo holds dump p v c (next + 1) path past_end (places ++ unknown_places spot 0 rule.lits)
        up_to_passing a here at_c policy frames fits e t t_is =
            up_to_act taken here at_c policy frames fits e t (ap (act policy c next path frames) a ∙ ap (λ (z : State). Some z) (sym t_is))

        -- the chain of a goto comes to an outcome
        pub up_to_away : (k : ℕ) → rule.action ≡ Action.Goto k → (below : Path) → below ≡ spot → (there : Chain P) → slice_get dump.chains k ≡ Some there →
            (added : List Place) (o : Option Verdict) → ChoosesTo holds dump p v k below past_end added o →
            ChoosesTo holds dump p v c path past_end (places ++ unknown_places spot 0 rule.lits ++ added) o
        up_to_away k a below below_is there at_k added o inner here at_c policy frames fits e t t_is =
            let entered = up_to_act taken here at_c policy frames fits e (At k 0 below frames)
            (ap (act policy c next path frames) a ∙ ap (λ (z : Path). Some (At k 0 z frames)) (sym below_is)) in
            let fit : Fits below frames = subst (λ (z : Path). Fits z frames) (sym below_is) (still_fits dump c next path frames fits) in
            chooses_both policy (At c 0 path frames) (At k 0 below frames) t (places ++ unknown_places spot 0 rule.lits) added entered
            (inner there at_k policy frames fit e t t_is)

        -- the called chain comes to an outcome
        module _ (k : ℕ) (a : rule.action ≡ Action.Call k) (below : Path) (below_is : below ≡ spot) (there : Chain P) (at_k : slice_get dump.chains k ≡ Some there)
            (added : List Place) (o : Option Verdict) (inner : ChoosesTo holds dump p v k below reached added o) where
          abbrev more : List Frame → List Frame
          more frames = record { chain = c; next = next + 1; path = path } ∷ frames

          abbrev all : List Place
          all = places ++ unknown_places spot 0 rule.lits ++ added

          through_call : (here : Chain P) → slice_get dump.chains c ≡ Some here → (policy : Option Verdict) (frames : List Frame) → Fits path frames → PastEnd policy frames → (t : State) →
              outcome_of o policy (more frames) ≡ Some t → Chooses holds dump p policy v (At c 0 path frames) t (places ++ unknown_places spot 0 rule.lits ++ added)
          through_call here at_c policy frames fits e t t_is =
              let entered = up_to_act taken here at_c policy frames fits e (At k 0 below (more frames))
              (ap (act policy c next path frames) a ∙ ap (λ (z : Path). Some (At k 0 z (more frames))) (sym below_is)) in
              chooses_both policy (At c 0 path frames) (At k 0 below (more frames)) t (places ++ unknown_places spot 0 rule.lits) added entered
              (inner there at_k policy (more frames) (next, [], refl, below_is, fits) (back_is here at_c policy frames e) t t_is)
            where
              back_is : (here : Chain P) → slice_get dump.chains c ≡ Some here → (policy : Option Verdict) (frames : List Frame) → PastEnd policy frames → (reached ≡ true) ↔ LeadsBack holds dump p policy v (more frames)
              back_is here at_c policy frames e = let b = behind_is here at_c policy frames e in (
                λ x. (At c (next + 1) path frames, refl, b.0 x),
                λ x. b.1 (let same : x.0 ≡ At c (next + 1) path frames = cc (x.1) in subst (Leads holds dump p policy v) same x.2),
              )

        -- it has a verdict
        pub up_to_verdict : (k : ℕ) (a : rule.action ≡ Action.Call k) (below : Path) (below_is : below ≡ spot) (there : Chain P) (at_k : slice_get dump.chains k ≡ Some there)
            (added : List Place) (o : Option Verdict) → ChoosesTo holds dump p v k below reached added o → (w : Verdict) → o ≡ Some w →
            ChoosesTo holds dump p v c path past_end (places ++ unknown_places spot 0 rule.lits ++ added) o
        up_to_verdict k a below below_is there at_k added o inner w o_is here at_c policy frames fits e t t_is =
            through_call k a below below_is there at_k added o inner here at_c policy frames fits e t
            (ap (λ (z : Option Verdict). outcome_of z policy (more k a below below_is there at_k added o inner frames)) o_is
            ∙ sym (ap (λ (z : Option Verdict). outcome_of z policy frames) o_is) ∙ t_is)

        -- it ends, and the walk goes on behind the call
        pub up_to_return : (k : ℕ) (a : rule.action ≡ Action.Call k) (below : Path) (below_is : below ≡ spot) (there : Chain P) (at_k : slice_get dump.chains k ≡ Some there)
            (added : List Place) (o : Option Verdict) → ChoosesTo holds dump p v k below reached added o → o ≡ None →
            ChoosesUpTo holds dump p v c (next + 1) path past_end (places ++ unknown_places spot 0 rule.lits ++ added)
        up_to_return k a below below_is there at_k added o inner o_is here at_c policy frames fits e t t_is =
            through_call k a below below_is there at_k added o inner here at_c policy frames fits e t
            (ap (λ (z : Option Verdict). outcome_of z policy (more k a below below_is there at_k added o inner frames)) o_is ∙ ap (λ (z : State). Some z) (sym t_is))
