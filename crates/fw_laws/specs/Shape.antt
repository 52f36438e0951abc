-- Two dumps whose rules do the same and match alike.
use Rattle.std.specs.Prelude.{ℕ, ◌≡◌, ◌↔◌, Bool, List, Option, Some, map, slice_get}
use Rattle.std.specs.Option.{option_and_then}
use Rattle.fw_rule.specs.declared.rule.Verdict.{Verdict}
use Rattle.fw_rule.specs.declared.rule.Action.{Action}
use Rattle.fw_rule.specs.declared.rule.Rule.{Rule}
use Rattle.fw_rule.specs.declared.rule.Chain.{Chain}
use Rattle.fw_rule.specs.declared.rule.Dump.{Dump}
use Rattle.fw_rule.specs.Walk.{Path, Meaning, State, matches, after, Walks, May, Must, Settled}

-- a chain's policy and the actions of its rules
pub record Shape : Type 0 where
  pub policy : Option Verdict
  pub actions : List Action

module _ {P : Type 0} where
  abbrev pub shape_of : Chain P → Shape
  shape_of here = record { policy = here.policy; actions = map (λ (rule : Rule P). rule.action) here.rules }

  -- the chains of both have the same policies and, rule by rule, the same actions
  abbrev pub SameShape : Dump P → Dump P → Type 0
  SameShape one other = map shape_of one.chains ≡ map shape_of other.chains

  -- the rule `n` of the chain, if there is one
  abbrev pub rule_at : Dump P → ℕ → ℕ → Option (Rule P)
  rule_at dump chain n = option_and_then (λ (here : Chain P). slice_get here.rules n) (slice_get dump.chains chain)

module _ {P Packet : Type 0} (holds : P → Packet → Bool) where
  -- the rules with the same numbers match alike, at every path
  abbrev pub MatchAlike : Dump P → Dump P → Packet → Meaning → Type 0
  MatchAlike one other p m = (chain n : ℕ) (path : Path) (a b : Rule P) → rule_at one chain n ≡ Some a → rule_at other chain n ≡ Some b →
      matches holds p m path a ≡ matches holds p m path b

  -- where the rules match alike, the walks have the same states, whatever the policy
  abbrev pub SameStates : Dump P → Dump P → Packet → Type 0
  SameStates one other p = (m : Meaning) → MatchAlike one other p m → (policy : Option Verdict) (k : ℕ) (s : State) →
      after holds one p m policy k s ≡ after holds other p m policy k s

  -- where the rules match alike, the walks have the same verdict
  abbrev pub SameVerdict : Dump P → Dump P → Packet → Type 0
  SameVerdict one other p = (m : Meaning) → MatchAlike one other p m → (chain : ℕ) (v : Verdict) → Walks holds one p m chain v ↔ Walks holds other p m chain v

  -- where the rules match alike under every meaning, the same may be accepted
  abbrev pub SameMay : Dump P → Dump P → Packet → Type 0
  SameMay one other p = ((m : Meaning) → MatchAlike one other p m) → (chain : ℕ) → May holds one chain p ↔ May holds other chain p

  -- where the rules match alike under every meaning, the same must be accepted
  abbrev pub SameMust : Dump P → Dump P → Packet → Type 0
  SameMust one other p = ((m : Meaning) → MatchAlike one other p m) → (chain : ℕ) → Must holds one chain p ↔ Must holds other chain p

-- a chain is settled in both or in neither
abbrev pub SameSettled : {P : Type 0} → Dump P → Dump P → Type 0
SameSettled one other = (chain : ℕ) → Settled one chain ↔ Settled other chain
