-- What may and what must be accepted.
use Rattle.std.specs.Prelude.{ℕ, ◌≡◌, Bool, true, false}
use Rattle.fw_rule.specs.declared.rule.Verdict.{Verdict}
use Rattle.fw_rule.specs.declared.rule.Verdict.TheVariants.{Accept}
use Rattle.fw_rule.specs.declared.rule.Rule.{Rule}
use Rattle.fw_rule.specs.declared.rule.Dump.{Dump}
use Rattle.fw_rule.specs.declared.side.Side.{Side}
use Rattle.fw_rule.specs.Places.{Meaning}
use Rattle.fw_rule.specs.Matching.{doubt_in}
use Rattle.fw_rule.specs.Steps.{Walks}
use Rattle.fw_rule.specs.Calls.{RuleOf}

-- whether a verdict accepts
abbrev pub is_accept : Verdict → Bool
is_accept Verdict.Accept = true
is_accept Verdict.Drop = false

module _ {P Packet : Type 0} (holds : P → Packet → Bool) (dump : Dump P) (chain : ℕ) (p : Packet) where
  -- a packet may be accepted where some meaning's walk accepts it
  abbrev pub May : Type 0
  May = (m : Meaning) × Walks holds dump p m chain Accept

  -- a packet must be accepted where every meaning's walk accepts it
  abbrev pub Must : Type 0
  Must = (m : Meaning) → Walks holds dump p m chain Accept

-- what a side asks of a packet: Upper that it may be accepted, Lower that it must be
abbrev pub IsAccepted : {P Packet : Type 0} → (P → Packet → Bool) → Side → Dump P → ℕ → Packet → Type 0
IsAccepted holds Side.Upper dump chain p = May holds dump chain p
IsAccepted holds Side.Lower dump chain p = Must holds dump chain p

-- no rule of any chain has an unknown literal
abbrev pub NothingUnknown : {P : Type 0} → Dump P → Type 0
NothingUnknown {P} dump = (chain : ℕ) (rule : Rule P) → RuleOf dump chain rule → doubt_in rule.lits ≡ false
