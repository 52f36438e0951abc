-- What an explanation promises.
use Rattle.std.specs.Prelude.{ℕ, ◌≡◌, Bool, List, [], Option, MatchOption}
use Rattle.fw_rule.specs.declared.rule.Verdict.{Verdict}
use Rattle.fw_rule.specs.declared.rule.Dump.{Dump}
use Rattle.fw_rule.specs.declared.rule.Place.{Place}
use Rattle.fw_rule.specs.Walk.{Meaning, State, At, Walks, policy_of}
use Rattle.explain.specs.Choices.{ExplainsFrom}

-- the places of the chosen walk are a meaning whose walk has the verdict; None exactly where no meaning's walk has it
abbrev pub IsExplained : {P Packet : Type 0} → (P → Packet → Bool) → Dump P → Packet → ℕ → Verdict → Option (List Place) → Type 0
IsExplained holds dump p chain v o = MatchOption o ((m : Meaning) → ¬ Walks holds dump p m chain v) (λ places.
    ExplainsFrom holds dump p (policy_of dump chain) v (At chain 0 [] []) places × Walks holds dump p places chain v)

-- a state has one explanation at most, whatever the policy of the asked chain
abbrev pub OneExplanation : {P Packet : Type 0} → (P → Packet → Bool) → Dump P → Packet → Verdict → Type 0
OneExplanation holds dump p v = (policy : Option Verdict) (s : State) (a b : List Place) →
    ExplainsFrom holds dump p policy v s a → ExplainsFrom holds dump p policy v s b → a ≡ b
