-- What a walk comes to, whatever the frames, is the outcome that it meets, and it meets one alone.
use Rattle.std.specs.Prelude.{ℕ, zero, suc, ◌+◌, ◌≡◌, Bool, true, false, List, [], ◌∷◌, ◌++◌, length, Option, None, Some, slice_get, refl}
use Rattle.std.proofs.Common.{subst, sym, ap, ◌∙◌, inl, inr, arith}
use Rattle.std.specs.Option.{option_and_then}
use Rattle.std.proofs.lemmas.Option.{option_and_then_some, slice_get_past}
use Rattle.fw_rule.specs.declared.rule.Verdict.{Verdict}
use Rattle.fw_rule.specs.declared.rule.Verdict.TheVariants.{Accept, Drop}
use Rattle.fw_rule.specs.declared.rule.Action.{Action}
use Rattle.fw_rule.specs.declared.rule.Rule.{Rule}
use Rattle.fw_rule.specs.declared.rule.Chain.{Chain}
use Rattle.fw_rule.specs.declared.rule.Dump.{Dump}
use Rattle.fw_rule.specs.Places.{Path, Meaning}
use Rattle.fw_rule.specs.Matching.{matches}
use Rattle.fw_rule.specs.Steps.{Frame, State, At, Ended, back, act, step, after}
use Rattle.fw_rule.specs.Outcomes.{Outcome, MatchesAt, IsPast, Gives, Meets, outcome_of, ComesTo}
use Rattle.fw_rule.proofs.Ends.{at_rule, matched, acted}

module _ {P Packet : Type 0} (holds : P → Packet → Bool) (dump : Dump P) (p : Packet) (m : Meaning) where
  -- the walk that is looked at before its verdict
  abbrev early : ℕ → State → Option State
  early = after holds dump p m None

  abbrev step_from : State → Option State
  step_from = step holds dump p m None

  abbrev MeetsFrom : State → Outcome → Type 0
  MeetsFrom s o = (k : ℕ) × (t : State) × (early k s ≡ Some t) × Gives holds dump p m t o

  sooner : (s t : State) (o : Outcome) → step_from s ≡ Some t → MeetsFrom t o → MeetsFrom s o
  sooner s t o e h = (suc h.0, h.1, rw e h.2, h.3)

module _ {P Packet : Type 0} (holds : P → Packet → Bool) (dump : Dump P) (p : Packet) (m : Meaning) (policy : Option Verdict) where
  abbrev run : ℕ → State → Option State
  run = after holds dump p m policy

  -- a frame in a chain that isn't there
  abbrev nowhere : Frame
  nowhere = record { chain = length dump.chains; next = 0; path = [] }

  abbrev aim : Outcome → Option State
  aim o = outcome_of o policy (nowhere ∷ [])

  stuck : (k : ℕ) (v : Verdict) → run k (At (length dump.chains) 0 [] []) ≡ Some (Ended v) → ⊥
  stuck zero v e = cc
  stuck (suc k) v e =
      let gone : slice_get dump.chains (length dump.chains) ≡ None = slice_get_past dump.chains (length dump.chains) (omega arith) in
      let h : None ≡ Some (Ended v) = rw gone at e in cc

  some_aim : (o : Outcome) → None ≡ aim o → ⊥
  some_aim None e = cc
  some_aim (Some v) e = cc

  ended : (k : ℕ) (v : Verdict) (o : Outcome) → run k (Ended v) ≡ aim o → o ≡ Some v
  ended zero v None e = cc
  ended zero v (Some w) e = cc
  ended (suc k) v o e = absurd (some_aim o e)

  not_yet : (c n : ℕ) (path : Path) (fs : List Frame) (o : Outcome) → Some (At c n path (fs ++ nowhere ∷ [])) ≡ aim o → ⊥
  not_yet c n path [] None e = cc
  not_yet c n path (f ∷ fs) None e = cc
  not_yet c n path fs (Some v) e = cc

  abbrev Later : ℕ → Type 0
  Later k = (c n : ℕ) (path : Path) (fs : List Frame) (o : Outcome) → run k (At c n path (fs ++ nowhere ∷ [])) ≡ aim o → MeetsFrom holds dump p m (At c n path fs) o

  module _ (k : ℕ) (ih : Later k) (c n : ℕ) (path : Path) (o : Outcome) (here : Chain P) (at_c : slice_get dump.chains c ≡ Some here) where
    by_back : (fs : List Frame) → Gives holds dump p m (At c n path []) None → step_from holds dump p m (At c n path fs) ≡ back None fs →
        option_and_then (run k) (back policy (fs ++ nowhere ∷ [])) ≡ aim o → MeetsFrom holds dump p m (At c n path fs) o
    by_back [] gives goes e = by_outcome o e
      where
        by_outcome : (q : Outcome) → run k (At (length dump.chains) 0 [] []) ≡ aim q → MeetsFrom holds dump p m (At c n path []) q
        by_outcome None f = (0, At c n path [], refl, gives)
        by_outcome (Some v) f = absurd (stuck k v f)
    by_back (f ∷ fs) gives goes e = sooner holds dump p m (At c n path (f ∷ fs)) (At f.chain f.next f.path fs) o goes (ih f.chain f.next f.path fs o e)

    module _ (rule : Rule P) (at_n : slice_get here.rules n ≡ Some rule) (fs : List Frame) where
      abbrev goes_on : (hit : matches holds p m (path ++ record { chain = c; rule = n } ∷ []) rule ≡ true) (action : Action) → rule.action ≡ action →
          step_from holds dump p m (At c n path fs) ≡ act None c n path fs action
      goes_on hit action is = acted holds dump p m None c here at_c n path fs rule action at_n hit is

      by_action : (action : Action) → matches holds p m (path ++ record { chain = c; rule = n } ∷ []) rule ≡ true → rule.action ≡ action →
          option_and_then (run k) (act policy c n path (fs ++ nowhere ∷ []) action) ≡ aim o → MeetsFrom holds dump p m (At c n path fs) o
      by_action Action.Accept hit is e =
          (0, At c n path fs, refl, subst (λ (z : Outcome). Gives holds dump p m (At c n path fs) z) (sym (ended k Accept o e)) (here, rule, at_c, at_n, hit, is))
      by_action Action.Drop hit is e =
          (0, At c n path fs, refl, subst (λ (z : Outcome). Gives holds dump p m (At c n path fs) z) (sym (ended k Drop o e)) (here, rule, at_c, at_n, hit, is))
      by_action Action.Pass hit is e = sooner holds dump p m (At c n path fs) (At c (n + 1) path fs) o (goes_on hit Action.Pass is) (ih c (n + 1) path fs o e)
      by_action Action.Back hit is e = by_back fs (inr (here, rule, at_c, at_n, hit, is)) (goes_on hit Action.Back is) e
      by_action (Action.Call j) hit is e = sooner holds dump p m (At c n path fs) (At j 0 (path ++ record { chain = c; rule = n } ∷ []) (record { chain = c; next = n + 1; path = path } ∷ fs)) o
          (goes_on hit (Action.Call j) is) (ih j 0 (path ++ record { chain = c; rule = n } ∷ []) (record { chain = c; next = n + 1; path = path } ∷ fs) o e)
      by_action (Action.Goto j) hit is e = sooner holds dump p m (At c n path fs) (At j 0 (path ++ record { chain = c; rule = n } ∷ []) fs) o
          (goes_on hit (Action.Goto j) is) (ih j 0 (path ++ record { chain = c; rule = n } ∷ []) fs o e)
      by_action (Action.Other name) hit is e = absurd (some_aim o e)

      by_match : (b : Bool) → matches holds p m (path ++ record { chain = c; rule = n } ∷ []) rule ≡ b → run (suc k) (At c n path (fs ++ nowhere ∷ [])) ≡ aim o →
          MeetsFrom holds dump p m (At c n path fs) o
      by_match true hit e = by_action rule.action hit refl (subst (λ (z : Option State). option_and_then (run k) z ≡ aim o)
          (acted holds dump p m policy c here at_c n path (fs ++ nowhere ∷ []) rule rule.action at_n hit refl) e)
      by_match false miss e = sooner holds dump p m (At c n path fs) (At c (n + 1) path fs) o (matched holds dump p m None c here at_c n path fs rule false at_n miss)
          (ih c (n + 1) path fs o (subst (λ (z : Option State). option_and_then (run k) z ≡ aim o) (matched holds dump p m policy c here at_c n path (fs ++ nowhere ∷ []) rule false at_n miss) e))

    by_rule : (fs : List Frame) (r : Option (Rule P)) → slice_get here.rules n ≡ r → run (suc k) (At c n path (fs ++ nowhere ∷ [])) ≡ aim o → MeetsFrom holds dump p m (At c n path fs) o
    by_rule fs None e f = by_back fs (inl (here, at_c, e)) (at_rule holds dump p m None c here at_c n path fs None e)
        (subst (λ (z : Option State). option_and_then (run k) z ≡ aim o) (at_rule holds dump p m policy c here at_c n path (fs ++ nowhere ∷ []) None e) f)
    by_rule fs (Some rule) e f = by_match rule e fs (matches holds p m (path ++ record { chain = c; rule = n } ∷ []) rule) refl f

  by_chain : (k : ℕ) → Later k → (c n : ℕ) (path : Path) (fs : List Frame) (o : Outcome) (x : Option (Chain P)) → slice_get dump.chains c ≡ x →
      run (suc k) (At c n path (fs ++ nowhere ∷ [])) ≡ aim o → MeetsFrom holds dump p m (At c n path fs) o
  by_chain k ih c n path fs o None e f = let h : None ≡ aim o = rw e at f in absurd (some_aim o h)
  by_chain k ih c n path fs o (Some here) e f = by_rule k ih c n path o here e fs (slice_get here.rules n) refl f

  meets_from : (k : ℕ) → Later k
  meets_from zero c n path fs o e = absurd (not_yet c n path fs o e)
  meets_from (suc k) c n path fs o e = by_chain k (meets_from k) c n path fs o (slice_get dump.chains c) refl e

  -- the outcome that a walk comes to whatever the frames is met without frames
  pub comes_meets : (c n : ℕ) (path : Path) (o : Outcome) → ComesTo holds dump p m c n path policy o → Meets holds dump p m c n path o
  comes_meets c n path None h = let g = h (nowhere ∷ []) in meets_from g.0 c n path [] None g.1
  comes_meets c n path (Some v) h = let g = h (nowhere ∷ []) in meets_from g.0 c n path [] (Some v) g.1

module _ {P Packet : Type 0} (holds : P → Packet → Bool) (dump : Dump P) (p : Packet) (m : Meaning) where
  -- a rule is matched at a place with one action alone
  one_action : (c n : ℕ) (path : Path) (a b : Action) → MatchesAt holds dump p m c n path a → MatchesAt holds dump p m c n path b → a ≡ b
  one_action c n path a b x y =
      let chains : x.0 ≡ y.0 = cc (x.2, y.2) in
      let at : slice_get (x.0).rules n ≡ Some y.1 = subst (λ (z : Chain P). slice_get z.rules n ≡ Some y.1) (sym chains) y.3 in
      let rules : x.1 ≡ y.1 = cc (x.3, at) in
      sym x.5 ∙ ap (λ (z : Rule P). z.action) rules ∙ y.5

  not_past : (c n : ℕ) (path : Path) (a : Action) → IsPast dump c n → MatchesAt holds dump p m c n path a → ⊥
  not_past c n path a x y =
      let chains : x.0 ≡ y.0 = cc (x.1, y.2) in
      let at : slice_get (x.0).rules n ≡ Some y.1 = subst (λ (z : Chain P). slice_get z.rules n ≡ Some y.1) (sym chains) y.3 in
      let gone : None ≡ Some y.1 = sym x.2 ∙ at in cc

  not_end : (c n : ℕ) (path : Path) (fs : List Frame) (v : Verdict) → Gives holds dump p m (At c n path fs) None → Gives holds dump p m (At c n path fs) (Some v) → ⊥
  not_end c n path [] Accept (inl past) y = not_past c n path Action.Accept past y
  not_end c n path [] Accept (inr x) y = let e : Action.Back ≡ Action.Accept = one_action c n path Action.Back Action.Accept x y in cc
  not_end c n path [] Drop (inl past) y = not_past c n path Action.Drop past y
  not_end c n path [] Drop (inr x) y = let e : Action.Back ≡ Action.Drop = one_action c n path Action.Back Action.Drop x y in cc
  not_end c n path (f ∷ fs) v x y = absurd x

  -- a state gives one outcome alone
  one_given : (s : State) (o q : Outcome) → Gives holds dump p m s o → Gives holds dump p m s q → o ≡ q
  one_given (Ended v) o q x y = absurd x
  one_given (At c n path fs) None None x y = refl
  one_given (At c n path fs) None (Some v) x y = absurd (not_end c n path fs v x y)
  one_given (At c n path fs) (Some v) None x y = absurd (not_end c n path fs v y x)
  one_given (At c n path fs) (Some Accept) (Some Accept) x y = refl
  one_given (At c n path fs) (Some Drop) (Some Drop) x y = refl
  one_given (At c n path fs) (Some Accept) (Some Drop) x y = let e : Action.Accept ≡ Action.Drop = one_action c n path Action.Accept Action.Drop x y in cc
  one_given (At c n path fs) (Some Drop) (Some Accept) x y = let e : Action.Drop ≡ Action.Accept = one_action c n path Action.Drop Action.Accept x y in cc

  after_back : (t : State) → back None [] ≡ Some t → (v : Verdict) × (t ≡ Ended v)
  after_back t e = cc

  acts : (c n : ℕ) (path : Path) (fs : List Frame) (a : Action) → (x : MatchesAt holds dump p m c n path a) → step_from holds dump p m (At c n path fs) ≡ act None c n path fs a
  acts c n path fs a x = acted holds dump p m None c x.0 x.2 n path fs x.1 a x.3 x.4 x.5

  -- the step after an outcome ends the walk
  then_ends : (s t : State) (o : Outcome) → Gives holds dump p m s o → step_from holds dump p m s ≡ Some t → (v : Verdict) × (t ≡ Ended v)
  then_ends (Ended v) t o x e = absurd x
  then_ends (At c n path fs) t (Some Accept) x e = let f : Some (Ended Accept) ≡ Some t = sym (acts c n path fs Action.Accept x) ∙ e in (Accept, cc)
  then_ends (At c n path fs) t (Some Drop) x e = let f : Some (Ended Drop) ≡ Some t = sym (acts c n path fs Action.Drop x) ∙ e in (Drop, cc)
  then_ends (At c n path []) t None (inl past) e = after_back t (sym (at_rule holds dump p m None c past.0 past.1 n path [] None past.2) ∙ e)
  then_ends (At c n path []) t None (inr x) e = after_back t (sym (acts c n path [] Action.Back x) ∙ e)
  then_ends (At c n path (f ∷ fs)) t None x e = absurd x

  nothing_from : (k : ℕ) (s t : State) (v : Verdict) (o : Outcome) → s ≡ Ended v → early holds dump p m k s ≡ Some t → Gives holds dump p m t o → ⊥
  nothing_from zero s t v o e f x = let same : t ≡ Ended v = cc in subst (λ (z : State). Gives holds dump p m z o) same x
  nothing_from (suc k) s t v o e f x = let h : None ≡ Some t = subst (λ (z : State). early holds dump p m (suc k) z ≡ Some t) e f in cc

  nothing_more : (k : ℕ) (s t : State) (o q : Outcome) → Gives holds dump p m s o → early holds dump p m (suc k) s ≡ Some t → Gives holds dump p m t q → ⊥
  nothing_more k s t o q x e y =
      option_and_then_some (early holds dump p m k) (step_from holds dump p m s) t e (λ u goes f. let v = then_ends s u o x goes in nothing_from k u t v.0 q v.1 f y)

  met_once : (j k : ℕ) (s t u : State) (o q : Outcome) → early holds dump p m j s ≡ Some t → Gives holds dump p m t o → early holds dump p m k s ≡ Some u → Gives holds dump p m u q → o ≡ q
  met_once zero zero s t u o q e x f y = let same : t ≡ u = cc in one_given u o q (subst (λ (z : State). Gives holds dump p m z o) same x) y
  met_once zero (suc k) s t u o q e x f y =
      let same : t ≡ s = cc in absurd (nothing_more k s u o q (subst (λ (z : State). Gives holds dump p m z o) same x) f y)
  met_once (suc j) zero s t u o q e x f y =
      let same : u ≡ s = cc in absurd (nothing_more j s t q o (subst (λ (z : State). Gives holds dump p m z q) same y) e x)
  met_once (suc j) (suc k) s t u o q e x f y =
      option_and_then_some (early holds dump p m j) (step_from holds dump p m s) t e (λ w goes g.
      met_once j k w t u o q g x (subst (λ (z : Option State). option_and_then (early holds dump p m k) z ≡ Some u) goes f) y)

  -- a walk meets one outcome alone
  pub one_met : (c n : ℕ) (path : Path) (o q : Outcome) → Meets holds dump p m c n path o → Meets holds dump p m c n path q → o ≡ q
  one_met c n path o q x y = met_once x.0 y.0 (At c n path []) x.1 y.1 o q x.2 x.3 y.2 y.3
