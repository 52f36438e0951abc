-- What matrices can be relied on for.
use Rattle.std.specs.Prelude.{ℕ, ◌≡◌, ◌↔◌}
use Rattle.primitives.specs.declared.prim.Packet.{Packet}
use Rattle.primitives.specs.declared.prim.Prim_.{Prim_}
use Rattle.primitives.specs.Holds.{holds_of}
use Rattle.fw_rule.specs.declared.rule.Dump.{Dump}
use Rattle.fw_rule.specs.Walk.{May, Must}
use Rattle.closure.specs.Sources.{IsKnown}
use Rattle.service_matrix.specs.declared.table.Matrix.{Matrix}
use Rattle.service_matrix.specs.Matrices.{IsMatrix}

-- edges between addresses have at most one matrix
abbrev pub HasOneMatrix : (W : ℕ) → (ℕ → ℕ → Type 0) → Type 0
HasOneMatrix W E = (a b : Matrix W) → IsMatrix E a → IsMatrix E b → a ≡ b

module _ {W : ℕ} (dump : Dump (Prim_ W)) (chain : ℕ) (p q : Packet) where
  -- each test in a known literal of a rule in reach holds of both packets or of neither
  abbrev pub PassAlike : Type 0
  PassAlike = (x : Prim_ W) → IsKnown dump chain x → holds_of x p ≡ holds_of x q

  -- what may and what must be accepted depends on the tests in reach alone
  pub record AreAnsweredAlike : Type 0 where
    pub may : PassAlike → May holds_of dump chain p ↔ May holds_of dump chain q
    pub must : PassAlike → Must holds_of dump chain p ↔ Must holds_of dump chain q
