-- The walk of a packet through the chains of a dump, under one meaning of the unknown literals.
use Rattle.std.specs.Prelude.{ℕ, zero, suc, ◌+◌, ◌≡◌, Bool, if◌then◌else◌, List, [], ◌∷◌, ◌++◌, Option, None, Some, slice_get}
use Rattle.std.specs.Option.{option_and_then}
use Rattle.fw_rule.specs.declared.rule.Verdict.{Verdict}
use Rattle.fw_rule.specs.declared.rule.Verdict.TheVariants.{Accept, Drop}
use Rattle.fw_rule.specs.declared.rule.Action.{Action}
use Rattle.fw_rule.specs.declared.rule.Rule.{Rule}
use Rattle.fw_rule.specs.declared.rule.Chain.{Chain}
use Rattle.fw_rule.specs.declared.rule.Dump.{Dump}
use Rattle.fw_rule.specs.Places.{Path, Meaning}
use Rattle.fw_rule.specs.Matching.{matches}

-- where a walk goes on after a call: before the rule `next` of a chain, which it reached over this path
pub record Frame : Type 0 where
  pub chain : ℕ
  pub next : ℕ
  pub path : Path

-- a walk stands before the rule `next` of a chain, or past its last rule, and reached it over the calls and gotos of `path`; it has a frame for each call that isn't ended yet, the last call first; or it has ended with a verdict
pub data State : Type 0 where
  At : (chain : ℕ) (next : ℕ) (path : Path) (frames : List Frame) → State
  Ended : Verdict → State

-- from a chain's end, or Back in it: to the last frame, which is taken off; without frames to the verdict of this policy,
-- that of the chain that the walk began in
abbrev pub back : Option Verdict → List Frame → Option State
back policy (f ∷ frames) = Some (At f.chain f.next f.path frames)
back (Some v) [] = Some (Ended v)
back None [] = None

-- what a rule that matches does, as the rule `next` of a chain, where the walk's policy is this: a call puts a frame
-- there and a goto none, so what stands behind a goto isn't met again; there is no step at an unsupported target
abbrev pub act : Option Verdict → ℕ → ℕ → Path → List Frame → Action → Option State
act policy chain next path frames Action.Accept = Some (Ended Accept)
act policy chain next path frames Action.Drop = Some (Ended Drop)
act policy chain next path frames Action.Pass = Some (At chain (next + 1) path frames)
act policy chain next path frames Action.Back = back policy frames
act policy chain next path frames (Action.Call k) =
    Some (At k 0 (path ++ record { chain = chain; rule = next } ∷ []) (record { chain = chain; next = next + 1; path = path } ∷ frames))
act policy chain next path frames (Action.Goto k) = Some (At k 0 (path ++ record { chain = chain; rule = next } ∷ []) frames)
act policy chain next path frames (Action.Other name) = None

-- the policy of the chain of this number, where there is such a chain and it has one
abbrev pub policy_of : {P : Type 0} → Dump P → ℕ → Option Verdict
policy_of {P} dump chain = option_and_then (λ (here : Chain P). here.policy) (slice_get dump.chains chain)

-- a walk, where the chain that it began in has this policy
module _ {P Packet : Type 0} (holds : P → Packet → Bool) (dump : Dump P) (p : Packet) (m : Meaning)
    (policy : Option Verdict) where
  -- one step in a chain at the rule, if there is one: past the last rule back, at a rule that doesn't match to the next one, else what the rule does
  abbrev pub step_at : ℕ → ℕ → Path → List Frame → Option (Rule P) → Option State
  step_at chain next path frames None = back policy frames
  step_at chain next path frames (Some rule) =
      if matches holds p m (path ++ record { chain = chain; rule = next } ∷ []) rule
      then act policy chain next path frames rule.action
      else Some (At chain (next + 1) path frames)

  -- the state after one step, if there is a step
  abbrev pub step : State → Option State
  step (At chain next path frames) =
      option_and_then (λ (here : Chain P). step_at chain next path frames (slice_get here.rules next)) (slice_get dump.chains chain)
  step (Ended v) = None

  -- the state after so many steps, if there are so many
  abbrev pub after : ℕ → State → Option State
  after zero s = Some s
  after (suc k) s = option_and_then (after k) (step s)

-- the walk of a chain begins before its first rule, with no path and no frames; after some number of steps it has the
-- verdict
abbrev pub Walks : {P Packet : Type 0} → (P → Packet → Bool) → Dump P → Packet → Meaning → ℕ → Verdict → Type 0
Walks holds dump p m chain v =
    (k : ℕ) × (after holds dump p m (policy_of dump chain) k (At chain 0 [] []) ≡ Some (Ended v))
