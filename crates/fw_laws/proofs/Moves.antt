-- Where a step of the walk leads.
use Rattle.std.specs.Prelude.{ℕ, zero, suc, ◌+◌, ◌≡◌, Bool, true, false, if◌then◌else◌, List, [], ◌∷◌, ◌++◌, Option, None, Some, slice_get, refl}
use Rattle.std.proofs.Common.{subst}
use Rattle.std.proofs.lemmas.Option.{option_and_then_some}
use Rattle.fw_rule.specs.declared.rule.Verdict.{Verdict}
use Rattle.fw_rule.specs.declared.rule.Verdict.TheVariants.{Accept, Drop}
use Rattle.fw_rule.specs.declared.rule.Action.{Action}
use Rattle.fw_rule.specs.declared.rule.Rule.{Rule}
use Rattle.fw_rule.specs.declared.rule.Chain.{Chain}
use Rattle.fw_rule.specs.declared.rule.Dump.{Dump}
use Rattle.fw_rule.specs.Walk.{Path, Meaning, State, At, Ended, Frame, matches, act, back, step, step_at, after, target_of, Calls}
use Rattle.fw_rule.proofs.Ends.{contains_at}

module _ {P : Type 0} (dump : Dump P) (c next : ℕ) (path : Path) (frames : List Frame) (t : State) where
  -- to the rule after it, back to a frame, to a verdict, into a chain that is called, or away to that of a goto
  pub data Move : Type 0 where
    On : t ≡ At c (next + 1) path frames → Move
    Home : (f : Frame) (rest : List Frame) → frames ≡ f ∷ rest → t ≡ At f.chain f.next f.path rest → Move
    Done : (v : Verdict) → t ≡ Ended v → Move
    Into : (k : ℕ) → Calls dump c k → t ≡ At k 0 (path ++ record { chain = c; rule = next } ∷ []) (record { chain = c; next = next + 1; path = path } ∷ frames) → Move
    Away : (k : ℕ) → Calls dump c k → t ≡ At k 0 (path ++ record { chain = c; rule = next } ∷ []) frames → Move

  by_back : (policy : Option Verdict) (all : List Frame) → frames ≡ all → back policy all ≡ Some t → Move
  by_back policy (f ∷ rest) e q = Home f rest e cc
  by_back (Some v) [] e q = Done v cc
  by_back None [] e q = cc

  by_action : (policy : Option Verdict) (action : Action) → ((k : ℕ) → target_of action ≡ Some k → Calls dump c k) → act policy c next path frames action ≡ Some t → Move
  by_action policy Action.Accept f q = Done Accept cc
  by_action policy Action.Drop f q = Done Drop cc
  by_action policy Action.Pass f q = On cc
  by_action policy Action.Back f q = by_back policy frames refl q
  by_action policy (Action.Call k) f q = Into k (f k refl) cc
  by_action policy (Action.Goto k) f q = Away k (f k refl) cc
  by_action policy (Action.Other name) f q = cc

  by_match : (policy : Option Verdict) (action : Action) (b : Bool) → ((k : ℕ) → target_of action ≡ Some k → Calls dump c k) →
      (if b then act policy c next path frames action else Some (At c (next + 1) path frames)) ≡ Some t → Move
  by_match policy action true f q = by_action policy action f q
  by_match policy action false f q = On cc

  module _ {Packet : Type 0} (holds : P → Packet → Bool) (p : Packet) (m : Meaning) (policy : Option Verdict) where
    by_rule : (here : Chain P) → slice_get dump.chains c ≡ Some here → (o : Option (Rule P)) → slice_get here.rules next ≡ o →
        step_at holds dump p m policy c next path frames o ≡ Some t → Move
    by_rule here at_c None e q = by_back policy frames refl q
    by_rule here at_c (Some rule) e q =
        by_match policy rule.action (matches holds p m (path ++ record { chain = c; rule = next } ∷ []) rule)
        (λ k a. (rule, (here, at_c, contains_at here.rules next rule e), a)) q

    pub move : step holds dump p m policy (At c next path frames) ≡ Some t → Move
    move q = option_and_then_some (λ (here : Chain P). step_at holds dump p m policy c next path frames (slice_get here.rules next)) (slice_get dump.chains c) t q
        (λ here at_c h. by_rule here at_c (slice_get here.rules next) refl h)

module _ {P Packet : Type 0} (holds : P → Packet → Bool) (dump : Dump P) (p : Packet) (m : Meaning) (policy : Option Verdict) where
  -- what each step keeps, the walk keeps
  pub along : (I : State → Type 0) → ((s t : State) → I s → step holds dump p m policy s ≡ Some t → I t) → (k : ℕ) (s t : State) → I s → after holds dump p m policy k s ≡ Some t → I t
  along I keeps zero s t i e = let q : s ≡ t = cc in subst I q i
  along I keeps (suc k) s t i e =
      option_and_then_some (after holds dump p m policy k) (step holds dump p m policy s) t e (λ x is h. along I keeps k x t (keeps s x i is) h)
