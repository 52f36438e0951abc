-- A walk goes on to later places alone.
use Rattle.std.specs.Prelude.{ℕ, zero, suc, ◌<◌, ◌≡◌, Bool, [], ◌∷◌, ◌++◌, Option, Some}
use Rattle.std.proofs.Common.{subst, sym, ◌∙◌, arith}
use Rattle.std.specs.Option.{option_and_then}
use Rattle.std.proofs.lemmas.Option.{option_and_then_some}
use Rattle.fw_rule.specs.declared.rule.Dump.{Dump}
use Rattle.fw_rule.specs.declared.rule.Verdict.{Verdict}
use Rattle.fw_rule.specs.Walk.{Path, Meaning, State, At, Ended, policy_of, step, after}
use Rattle.fw_laws.specs.Frames.{step_of}
use Rattle.fw_laws.specs.Places.{NoPlaceTwice}
use Rattle.fw_laws.proofs.Moves.{move}
use Rattle.fw_laws.proofs.Order.{Before, never_itself, FitsAt, Behind, behind_both, moved}

-- the second state is at a later place, or it is a verdict
abbrev Later : State → State → Type 0
Later (At c n path frames) t = Behind (path ++ step_of c n ∷ []) t
Later (Ended v) t = ⊥

over_states : (s t u : State) → Later s t → Later t u → Later s u
over_states (At c n path frames) (At c' n' path' frames') u h g = behind_both (path ++ step_of c n ∷ []) (path' ++ step_of c' n' ∷ []) u h g
over_states (At c n path frames) (Ended v) u h g = absurd g
over_states (Ended v) t u h g = absurd h

module _ {P Packet : Type 0} (holds : P → Packet → Bool) (dump : Dump P) (p : Packet) (m : Meaning) (policy : Option Verdict) where
  one_step : (s t : State) → FitsAt s → step holds dump p m policy s ≡ Some t → FitsAt t × Later s t
  one_step (At c next path frames) t h e = moved dump c next path frames t h (move dump c next path frames t holds p m policy e)
  one_step (Ended v) t h e = cc

  from_first : (k : ℕ) (s t : State) → FitsAt s → after holds dump p m policy (suc k) s ≡ Some t → Later s t
  from_first zero s t h e = option_and_then_some (after holds dump p m policy 0) (step holds dump p m policy s) t e (λ x is g.
      let q : x ≡ t = cc in subst (λ (z : State). Later s z) q (one_step s x h is).1)
  from_first (suc k) s t h e = option_and_then_some (after holds dump p m policy (suc k)) (step holds dump p m policy s) t e (λ x is g.
      let one = one_step s x h is in over_states s x t one.1 (from_first k x t one.0 g))

  later_on : (j k : ℕ) (s t u : State) → FitsAt s → j < k → after holds dump p m policy j s ≡ Some t → after holds dump p m policy k s ≡ Some u → Later t u
  later_on j zero s t u h l a b = absurd (omega arith)
  later_on zero (suc k) s t u h l a b = let q : s ≡ t = cc in subst (λ (z : State). Later z u) q (from_first k s u h b)
  later_on (suc j) (suc k) s t u h l a b = option_and_then_some (after holds dump p m policy j) (step holds dump p m policy s) t a (λ x is g.
      later_on j k x t u (one_step s x h is).0 (omega arith) g (subst (λ (o : Option State). option_and_then (after holds dump p m policy k) o ≡ Some u) is b))

module _ {P Packet : Type 0} (holds : P → Packet → Bool) (dump : Dump P) (p : Packet) where
  pub no_place_twice : NoPlaceTwice holds dump p
  no_place_twice m asked j k place l a b =
      let same : a.calls ++ step_of a.chain a.next ∷ [] ≡ b.calls ++ step_of b.chain b.next ∷ [] = sym a.steps ∙ b.steps in
      never_itself (b.calls ++ step_of b.chain b.next ∷ [])
      (subst (λ (z : Path). Before z (b.calls ++ step_of b.chain b.next ∷ [])) same
      (later_on holds dump p m (policy_of dump asked) j k (At asked 0 [] []) (At a.chain a.next a.calls a.frames) (At b.chain b.next b.calls b.frames) tt l a.stands b.stands))
