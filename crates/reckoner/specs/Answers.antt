-- What the answers show.
use Rattle.std.specs.Prelude.{ℕ, Bool}
use Rattle.fw_rule.specs.declared.rule.Verdict.TheVariants.{Drop}
use Rattle.fw_rule.specs.declared.rule.Dump.{Dump}
use Rattle.fw_rule.specs.Walk.{Meaning, Walks}

-- some meaning's walk drops the packet
abbrev pub SomeDrops : {P Packet : Type 0} → (P → Packet → Bool) → Dump P → ℕ → Packet → Type 0
SomeDrops holds dump chain p = (m : Meaning) × Walks holds dump p m chain Drop
