-- Dumps in which all that is reached is known.
use Rattle.std.specs.Prelude.{ℕ, ◌≡◌, ◌↔◌, Bool, false, []}
use Rattle.fw_rule.specs.declared.rule.Verdict.TheVariants.{Accept}
use Rattle.fw_rule.specs.declared.rule.Rule.{Rule}
use Rattle.fw_rule.specs.declared.rule.Dump.{Dump}
use Rattle.fw_rule.specs.Walk.{Meaning, At, policy_of, after, Walks, doubt_in, RuleOf, Reaches, May, Must}

-- no rule of a chain that is reached has an unknown literal
abbrev pub KnownAlone : {P : Type 0} → Dump P → ℕ → Type 0
KnownAlone {P} dump asked = (chain : ℕ) (rule : Rule P) → Reaches dump asked chain → RuleOf dump chain rule → doubt_in rule.lits ≡ false

module _ {P Packet : Type 0} (holds : P → Packet → Bool) (dump : Dump P) (asked : ℕ) (p : Packet) where
  -- under all meanings the walk is one: after any number of steps it has the same state
  abbrev pub HasOneWalk : Type 0
  HasOneWalk = (m w : Meaning) (k : ℕ) →
      after holds dump p m (policy_of dump asked) k (At asked 0 [] [])
      ≡ after holds dump p w (policy_of dump asked) k (At asked 0 [] [])

  -- whatever the meaning, its walk accepts exactly where the packet may be accepted
  abbrev pub WalkIsMay : Type 0
  WalkIsMay = (m : Meaning) → Walks holds dump p m asked Accept ↔ May holds dump asked p

  -- whatever the meaning, its walk accepts exactly where the packet must be accepted
  abbrev pub WalkIsMust : Type 0
  WalkIsMust = (m : Meaning) → Walks holds dump p m asked Accept ↔ Must holds dump asked p
