-- Parts of the chosen walk.
use Rattle.std.specs.Prelude.{ℕ, ◌≡◌, ◌↔◌, Bool, true, false, List, ◌++◌, Option, Some, slice_get}
use Rattle.fw_rule.specs.declared.rule.Verdict.{Verdict}
use Rattle.fw_rule.specs.declared.rule.Chain.{Chain}
use Rattle.fw_rule.specs.declared.rule.Dump.{Dump}
use Rattle.fw_rule.specs.declared.rule.Place.{Place}
use Rattle.fw_rule.specs.Walk.{Path, State, At, Frame, outcome_of}
use Rattle.fw_laws.specs.Frames.{Fits}
use Rattle.explain.specs.declared.reach.Match.{Match}
use Rattle.explain.specs.Choices.{ExplainsFrom}
use Rattle.explain.specs.inner.Reaching.{Leads, LeadsBack}

-- whether a rule is passed over, by how it matches and whether the verdict is reached behind it
abbrev pub is_passed : Match → Bool → Bool
is_passed Match.Fails reached = true
is_passed Match.Holds reached = false
is_passed Match.Doubtful reached = reached

module _ {P Packet : Type 0} (holds : P → Packet → Bool) (dump : Dump P) (p : Packet) where
  -- the chosen walk leads from the one state to the other over these places, where the asked chain has this policy
  pub record Chooses (policy : Option Verdict) (v : Verdict) (s t : State) (places : List Place) : Type 0 where
    pub leads : Leads holds dump p policy v s → Leads holds dump p policy v t
    pub explains : (more : List Place) → ExplainsFrom holds dump p policy v t more →
        ExplainsFrom holds dump p policy v s (places ++ more)

  module _ (v : Verdict) where
    -- so it does from the first rule of a chain, under all frames where `past_end` says whether the verdict can be
    -- reached from the chain's end on
    abbrev pub ChoosesIn : ℕ → Path → Bool → List Place → (Option Verdict → List Frame → State → Type 0) → Type 0
    ChoosesIn c path past_end places To = (here : Chain P) → slice_get dump.chains c ≡ Some here →
        (policy : Option Verdict) (frames : List Frame) → Fits path frames →
        ((past_end ≡ true) ↔ LeadsBack holds dump p policy v frames) → (t : State) → To policy frames t →
        Chooses policy v (At c 0 path frames) t places

    -- up to the rule `next`
    abbrev pub ChoosesUpTo : ℕ → ℕ → Path → Bool → List Place → Type 0
    ChoosesUpTo c next path past_end places =
        ChoosesIn c path past_end places (λ policy frames t. t ≡ At c next path frames)

    -- to what the chain comes to
    abbrev pub ChoosesTo : ℕ → Path → Bool → List Place → Option Verdict → Type 0
    ChoosesTo c path past_end places o =
        ChoosesIn c path past_end places (λ policy frames t. outcome_of o policy frames ≡ Some t)
