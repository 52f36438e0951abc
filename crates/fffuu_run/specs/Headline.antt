-- What a printed filter says of the dump that it was made from.
use Rattle.std.specs.Prelude.{ℕ, ◌≡◌, ◌↔◌, List, Some, slice_get}
use Rattle.primitives.specs.declared.prim.Packet.{Packet}
use Rattle.primitives.specs.declared.prim.Prim_.{Prim_}
use Rattle.primitives.specs.Holds.{holds_of, IsValid}
use Rattle.fw_rule.specs.declared.rule.Chain.{Chain}
use Rattle.fw_rule.specs.declared.rule.Dump.{Dump}
use Rattle.fw_rule.specs.declared.rule.Verdict.{Verdict}
use Rattle.fw_rule.specs.Walk.{IsAccepted, Meaning, NothingUnknown, Settled, Walks}
use Rattle.fw_rule.specs.declared.side.Side.{Side}
use Rattle.dump_grammar.specs.Reads.{IsDump}

-- the chain of this number has this name and this policy
abbrev pub IsChain : {P : Type 0} → Dump P → ℕ → List ℕ → Verdict → Type 0
IsChain {P} dump chain name policy =
    (here : Chain P) × (slice_get dump.chains chain ≡ Some here) × (here.name ≡ name) × (here.policy ≡ Some policy)

-- The text is a dump whose first chain has this name and policy. It is settled, and no rule has an unknown literal.
-- Whatever the meaning, its walk accepts a valid packet exactly where some meaning's walk accepts it in the original
-- (upper), or each one's does (lower).
-- `Reads` says which text is one of which address of `W` bits.
pub record IsFilterOf (W : ℕ) (Reads : List ℕ → ℕ → Type 0) (side : Side) (original : Dump (Prim_ W)) (chain : ℕ)
    (name : List ℕ) (policy : Verdict) (text : List ℕ) : Type 0 where
  pub filter : Dump (Prim_ W)
  pub reads : IsDump W Reads text filter
  pub first : IsChain filter 0 name policy
  pub settled : Settled filter 0
  pub known : NothingUnknown filter
  pub exact : (p : Packet) → IsValid W p → (m : Meaning) →
      Walks holds_of filter p m 0 Verdict.Accept ↔ IsAccepted holds_of side original chain p
