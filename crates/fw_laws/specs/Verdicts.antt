-- How many verdicts there are, and what may and must say of them.
use Rattle.std.specs.Prelude.{ℕ, ◌≡◌, ◌↔◌, Bool}
use Rattle.fw_rule.specs.declared.rule.Verdict.{Verdict}
use Rattle.fw_rule.specs.declared.rule.Verdict.TheVariants.{Drop}
use Rattle.fw_rule.specs.declared.rule.Dump.{Dump}
use Rattle.fw_rule.specs.Walk.{Meaning, Walks, May, Must}

module _ {P Packet : Type 0} (holds : P → Packet → Bool) (dump : Dump P) (chain : ℕ) (p : Packet) where
  -- the walk has a verdict, and no other one
  abbrev pub HasOneVerdict : Meaning → Type 0
  HasOneVerdict m = (v : Verdict) × Walks holds dump p m chain v × ((w : Verdict) → Walks holds dump p m chain w → w ≡ v)

  -- what must be accepted may be accepted
  abbrev pub MustIsMay : Type 0
  MustIsMay = Must holds dump chain p → May holds dump chain p

  -- what may not be accepted is dropped under every meaning, and the other way round
  abbrev pub NeverIsDropped : Type 0
  NeverIsDropped = (¬ May holds dump chain p) ↔ ((m : Meaning) → Walks holds dump p m chain Drop)

  -- what must be accepted is dropped under no meaning, and the other way round
  abbrev pub MustIsNeverDropped : Type 0
  MustIsNeverDropped = Must holds dump chain p ↔ ((m : Meaning) → ¬ Walks holds dump p m chain Drop)
