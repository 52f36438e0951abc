-- Whether one dump lets through no more than another.
use Rattle.std.specs.Prelude.{ℕ}
use Rattle.primitives.specs.declared.prim.Packet.{Packet}
use Rattle.primitives.specs.declared.prim.Prim_.{Prim_}
use Rattle.primitives.specs.Holds.{IsValid, holds_of}
use Rattle.fw_rule.specs.declared.rule.Dump.{Dump}
use Rattle.fw_rule.specs.Answers.{May, Must}
use Rattle.region_queries.specs.declared.answers.Cover.{Cover}

module _ {W : ℕ} (first : Dump (Prim_ W)) (first_chain : ℕ) (second : Dump (Prim_ W)) (second_chain : ℕ) where
  -- each valid packet that the first may accept, the second must accept
  abbrev pub Covers : Type 0
  Covers = (p : Packet) → IsValid W p → May holds_of first first_chain p → Must holds_of second second_chain p

  -- the packet is valid, the first may accept it, and it isn't so that the second must
  pub record Escapes (p : Packet) : Type 0 where
    pub valid : IsValid W p
    pub may : May holds_of first first_chain p
    pub must_not : Must holds_of second second_chain p → ⊥

  -- the answer says what is so
  abbrev pub IsRight : Cover → Type 0
  IsRight Cover.Holds = Covers
  IsRight (Cover.Fails p) = Escapes p
