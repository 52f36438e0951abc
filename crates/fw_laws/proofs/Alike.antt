-- Two dumps of one shape whose rules match alike on the way have the same walk.
use Rattle.std.specs.Prelude.{ℕ, zero, suc, ◌<◌, ◌≡◌, Bool, List, [], ◌∷◌, ◌++◌, Option, None, Some, slice_get, refl}
use Rattle.std.proofs.Common.{sym, ap, ◌∙◌, arith}
use Rattle.std.specs.Option.{option_and_then, option_map}
use Rattle.std.proofs.lemmas.Option.{slice_get-map}
use Rattle.fw_rule.specs.declared.rule.Verdict.{Verdict}
use Rattle.fw_rule.specs.declared.rule.Rule.{Rule}
use Rattle.fw_rule.specs.declared.rule.Chain.{Chain}
use Rattle.fw_rule.specs.declared.rule.Dump.{Dump}
use Rattle.fw_rule.specs.Walk.{Path, Meaning, State, At, Ended, Frame, matches, policy_of, step, step_at, after}
use Rattle.fw_laws.specs.Shape.{Shape, shape_of, SameShape, rule_at, MatchAlike, SameStates, SameVerdict, SameMay, SameMust}

module _ {P : Type 0} where
  -- the chains of one number, if there are such, have one shape
  pub chain_shapes : (one other : Dump P) → SameShape one other → (c : ℕ) → option_map shape_of (slice_get one.chains c) ≡ option_map shape_of (slice_get other.chains c)
  chain_shapes one other e c = sym (slice_get-map shape_of one.chains c) ∙ ap (λ (xs : List Shape). slice_get xs c) e ∙ slice_get-map shape_of other.chains c

  policy_in : (o : Option (Chain P)) → option_and_then (λ (here : Chain P). here.policy) o ≡ option_and_then (λ (s : Shape). s.policy) (option_map shape_of o)
  policy_in None = refl
  policy_in (Some here) = refl

  -- the chains of one number have one policy
  pub same_policy : (one other : Dump P) → SameShape one other → (c : ℕ) → policy_of one c ≡ policy_of other c
  same_policy one other e c = policy_in (slice_get one.chains c) ∙ ap (option_and_then (λ (s : Shape). s.policy)) (chain_shapes one other e c) ∙ sym (policy_in (slice_get other.chains c))

  pub rule_actions : (here there : Chain P) → shape_of here ≡ shape_of there → (n : ℕ) →
      option_map (λ (rule : Rule P). rule.action) (slice_get here.rules n) ≡ option_map (λ (rule : Rule P). rule.action) (slice_get there.rules n)
  rule_actions here there e n = sym (slice_get-map (λ (rule : Rule P). rule.action) here.rules n) ∙ ap (λ (s : Shape). slice_get s.actions n) e
      ∙ slice_get-map (λ (rule : Rule P). rule.action) there.rules n

module _ {P Packet : Type 0} (holds : P → Packet → Bool) (one other : Dump P) (p p' : Packet) (m w : Meaning) (policy : Option Verdict) where
  -- the rules of these numbers match alike at the path
  abbrev pub AlikeAt : ℕ → ℕ → Path → Type 0
  AlikeAt c n path = (a b : Rule P) → rule_at one c n ≡ Some a → rule_at other c n ≡ Some b → matches holds p m path a ≡ matches holds p' w path b

  module _ (c n : ℕ) (path : Path) (frames : List Frame) where
    by_rules : (a b : Option (Rule P)) → option_map (λ (rule : Rule P). rule.action) a ≡ option_map (λ (rule : Rule P). rule.action) b →
        ((x y : Rule P) → a ≡ Some x → b ≡ Some y → matches holds p m (path ++ record { chain = c; rule = n } ∷ []) x ≡ matches holds p' w (path ++ record { chain = c; rule = n } ∷ []) y) →
        step_at holds one p m policy c n path frames a ≡ step_at holds other p' w policy c n path frames b
    by_rules None None q h = refl
    by_rules None (Some y) q h = cc
    by_rules (Some x) None q h = cc
    by_rules (Some x) (Some y) q h = let same : x.action ≡ y.action = cc in rw (h x y refl refl, same) refl

    by_chains : (a b : Option (Chain P)) → option_map shape_of a ≡ option_map shape_of b →
        ((x y : Rule P) → option_and_then (λ (here : Chain P). slice_get here.rules n) a ≡ Some x → option_and_then (λ (here : Chain P). slice_get here.rules n) b ≡ Some y →
        matches holds p m (path ++ record { chain = c; rule = n } ∷ []) x ≡ matches holds p' w (path ++ record { chain = c; rule = n } ∷ []) y) →
        option_and_then (λ (here : Chain P). step_at holds one p m policy c n path frames (slice_get here.rules n)) a
        ≡ option_and_then (λ (here : Chain P). step_at holds other p' w policy c n path frames (slice_get here.rules n)) b
    by_chains None None e h = refl
    by_chains None (Some y) e h = cc
    by_chains (Some x) None e h = cc
    by_chains (Some x) (Some y) e h =
        let same : shape_of x ≡ shape_of y = cc in by_rules (slice_get x.rules n) (slice_get y.rules n) (rule_actions x y same n) h

  module _ (shape : SameShape one other) where
    step_alike : (c n : ℕ) (path : Path) (frames : List Frame) → AlikeAt c n (path ++ record { chain = c; rule = n } ∷ []) →
        step holds one p m policy (At c n path frames) ≡ step holds other p' w policy (At c n path frames)
    step_alike c n path frames h = by_chains c n path frames (slice_get one.chains c) (slice_get other.chains c) (chain_shapes one other shape c) h

    -- where the rules match alike that the walk from a state comes to before the step of this number
    abbrev pub AlikeOnWay : ℕ → State → Type 0
    AlikeOnWay k s = (j c n : ℕ) (path : Path) (frames : List Frame) → j < k → after holds one p m policy j s ≡ Some (At c n path frames) →
        AlikeAt c n (path ++ record { chain = c; rule = n } ∷ [])

    after_same : (k : ℕ) (o : Option State) → ((t : State) → o ≡ Some t → after holds one p m policy k t ≡ after holds other p' w policy k t) →
        option_and_then (after holds one p m policy k) o ≡ option_and_then (after holds other p' w policy k) o
    after_same k None h = refl
    after_same k (Some t) h = h t refl

    -- the walks have the same states up to it
    pub same_after : (k : ℕ) (s : State) → AlikeOnWay k s → after holds one p m policy k s ≡ after holds other p' w policy k s
    same_after zero s h = refl
    same_after (suc k) (Ended v) h = refl
    same_after (suc k) (At c n path frames) h =
        let e = step_alike c n path frames (h 0 c n path frames (omega arith) refl) in
        after_same k (step holds one p m policy (At c n path frames)) (λ t q. same_after k t (λ j c' n' path' frames' l r.
        h (suc j) c' n' path' frames' (omega arith) (ap (option_and_then (after holds one p m policy j)) q ∙ r))) ∙ ap (option_and_then (after holds other p' w policy k)) e

module _ {P Packet : Type 0} (holds : P → Packet → Bool) (one other : Dump P) (p : Packet) (shape : SameShape one other) where
  pub same_states : SameStates holds one other p
  same_states m alike policy k s = same_after holds one other p p m m policy shape k s (λ j c n path frames l q. alike c n (path ++ record { chain = c; rule = n } ∷ []))

  -- with the policy of the asked chain, which is the same in both
  states_of : (m : Meaning) → MatchAlike holds one other p m → (chain k : ℕ) (s : State) → after holds one p m (policy_of one chain) k s ≡ after holds other p m (policy_of other chain) k s
  states_of m alike chain k s = same_states m alike (policy_of one chain) k s ∙ ap (λ (policy : Option Verdict). after holds other p m policy k s) (same_policy one other shape chain)

  pub same_verdict : SameVerdict holds one other p
  same_verdict m alike chain v =
      (λ h. (h.0, sym (states_of m alike chain h.0 (At chain 0 [] [])) ∙ h.1), λ h. (h.0, states_of m alike chain h.0 (At chain 0 [] []) ∙ h.1))

  pub same_may : SameMay holds one other p
  same_may alike chain = (λ h. (h.0, (same_verdict h.0 (alike h.0) chain Verdict.Accept).0 h.1), λ h. (h.0, (same_verdict h.0 (alike h.0) chain Verdict.Accept).1 h.1))

  pub same_must : SameMust holds one other p
  same_must alike chain = (λ h m. (same_verdict m (alike m) chain Verdict.Accept).0 (h m), λ h m. (same_verdict m (alike m) chain Verdict.Accept).1 (h m))
