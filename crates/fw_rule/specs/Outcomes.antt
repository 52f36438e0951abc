-- What a chain comes to, from one of its rules on: a verdict of a rule, or its end.
use Rattle.std.specs.Prelude.{ℕ, ◌≤◌, ◌≡◌, ◌⊎◌, Bool, true, List, [], ◌∷◌, ◌++◌, Option, None, Some, slice_get}
use Rattle.fw_rule.specs.declared.rule.Verdict.{Verdict}
use Rattle.fw_rule.specs.declared.rule.Verdict.TheVariants.{Accept, Drop}
use Rattle.fw_rule.specs.declared.rule.Action.{Action}
use Rattle.fw_rule.specs.declared.rule.Rule.{Rule}
use Rattle.fw_rule.specs.declared.rule.Chain.{Chain}
use Rattle.fw_rule.specs.declared.rule.Dump.{Dump}
use Rattle.fw_rule.specs.Places.{Path, Meaning}
use Rattle.fw_rule.specs.Matching.{matches}
use Rattle.fw_rule.specs.Steps.{Frame, State, At, Ended, back, after}

-- an outcome is a verdict, or None for the end of the chain
abbrev pub Outcome : Type 0
Outcome = Option Verdict

-- the chain has no rule `next`
abbrev pub IsPast : {P : Type 0} → Dump P → ℕ → ℕ → Type 0
IsPast {P} dump chain next = (here : Chain P) × (slice_get dump.chains chain ≡ Some here) × (slice_get here.rules next ≡ None)

module _ {P Packet : Type 0} (holds : P → Packet → Bool) (dump : Dump P) (p : Packet) (m : Meaning) where
  -- the rule `next` of the chain, reached over the path, has this action, and it matches
  abbrev pub MatchesAt : ℕ → ℕ → Path → Action → Type 0
  MatchesAt chain next path action = (here : Chain P) × (rule : Rule P) ×
      (slice_get dump.chains chain ≡ Some here) × (slice_get here.rules next ≡ Some rule) ×
      (matches holds p m (path ++ record { chain = chain; rule = next } ∷ []) rule ≡ true) × (rule.action ≡ action)

  -- what a state gives: a rule's verdict; or, without frames, the end: past the last rule of the chain that the walk stands in, or at Back there
  abbrev pub Gives : State → Outcome → Type 0
  Gives (At chain next path frames) (Some Accept) = MatchesAt chain next path Action.Accept
  Gives (At chain next path frames) (Some Drop) = MatchesAt chain next path Action.Drop
  Gives (At chain next path []) None = IsPast dump chain next ⊎ MatchesAt chain next path Action.Back
  Gives (At chain next path (f ∷ frames)) None = ⊥
  Gives (Ended v) o = ⊥

  -- the walk that begins there without frames meets the outcome. It is looked at before it has a verdict, so its policy
  -- doesn't matter
  abbrev pub Meets : ℕ → ℕ → Path → Outcome → Type 0
  Meets chain next path o =
      (k : ℕ) × (s : State) × (after holds dump p m None k (At chain next path []) ≡ Some s) × Gives s o

module _ {P Packet : Type 0} (holds : P → Packet → Bool) (dump : Dump P) (p : Packet) where
  -- an outcome is possible where some meaning's walk meets it
  abbrev pub IsPossible : ℕ → ℕ → Path → Outcome → Type 0
  IsPossible chain next path o = (m : Meaning) × Meets holds dump p m chain next path o

-- how good an outcome is where one verdict is wanted: that verdict before the end, and the end before the other verdict
abbrev pub worth : Verdict → Outcome → ℕ
worth Accept (Some Accept) = 2
worth Accept None = 1
worth Accept (Some Drop) = 0
worth Drop (Some Drop) = 2
worth Drop None = 1
worth Drop (Some Accept) = 0

-- the best outcome is a possible one, and none that is possible is better. An upper bound wants Accept, a lower one Drop
abbrev pub IsBest : {P Packet : Type 0} → (P → Packet → Bool) → Dump P → Packet → Verdict → ℕ → ℕ → Path → Outcome → Type 0
IsBest holds dump p wanted chain next path o = IsPossible holds dump p chain next path o
    × ((other : Outcome) → IsPossible holds dump p chain next path other → worth wanted other ≤ worth wanted o)

-- the state that an outcome leads to: the verdict; at the end where the frames say, or without frames the verdict of the policy
abbrev pub outcome_of : Outcome → Option Verdict → List Frame → Option State
outcome_of (Some v) policy frames = Some (Ended v)
outcome_of None policy frames = back policy frames

-- from there on the walk, whose policy is this, comes to the outcome, whatever the frames
abbrev pub ComesTo : {P Packet : Type 0} → (P → Packet → Bool) → Dump P → Packet → Meaning → ℕ → ℕ → Path → Option Verdict → Outcome → Type 0
ComesTo holds dump p m chain next path policy o = (frames : List Frame) →
    (k : ℕ) × (after holds dump p m policy k (At chain next path frames) ≡ outcome_of o policy frames)
