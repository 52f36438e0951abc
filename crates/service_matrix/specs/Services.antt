-- Which addresses may open a service to which.
use Rattle.std.specs.Prelude.{ℕ, ◌≡◌, ◌<◌, ◌^◌, Bool, true, false, List, unwrap_or}
use Rattle.primitives.specs.declared.prim.Packet.{Packet}
use Rattle.primitives.specs.declared.prim.Prim_.{Prim_}
use Rattle.primitives.specs.Holds.{IsValid, holds_of}
use Rattle.interval_set.specs.declared.set.Range.{Range}
use Rattle.interval_set.specs.Numbers.{has}
use Rattle.fw_rule.specs.declared.rule.Dump.{Dump}
use Rattle.fw_rule.specs.declared.rule.Verdict.{Verdict}
use Rattle.fw_rule.specs.declared.side.Side.{Side}
use Rattle.fw_rule.specs.Answers.{IsAccepted, May, Must, is_accept}
use Rattle.box_norm.specs.declared.cube.SimpleRule.{SimpleRule}
use Rattle.box_norm.specs.Normal.{first_of}
use Rattle.simple_filter.specs.Hidden.{hidden}
use Rattle.simple_filter.specs.declared.hiding.Hide.{Hide}
use Rattle.ip_partition.specs.Partition.{IsIn}
use Rattle.service_matrix.specs.declared.table.Matrix.{Matrix}
use Rattle.service_matrix.specs.Matrices.{has_edge}
use Rattle.service_packet.specs.declared.service.Service.{Service}
use Rattle.service_packet.specs.Packets.{service_packet}

-- the packet is the service's from `s` to `d`, but for its two names
abbrev pub IsBetween : Service → ℕ → ℕ → Packet → Type 0
IsBetween service s d p = p ≡ record (service_packet service s d) { in_name = p.in_name; out_name = p.out_name }

module _ {W : ℕ} where
  -- the service's packet from `s` to `d` may be accepted (Upper), or must be (Lower)
  abbrev pub GoesTo : Side → Dump (Prim_ W) → ℕ → Service → ℕ → ℕ → Type 0
  GoesTo side dump chain service s d = IsAccepted holds_of side dump chain (service_packet service s d)

  -- the same with the tests of interface names hidden
  abbrev pub Edge : Side → Dump (Prim_ W) → ℕ → Service → ℕ → ℕ → Type 0
  Edge side dump = GoesTo side (hidden Hide.BothNames dump)

  -- What an edge says of the dump with nothing hidden, whatever the names of the interfaces: without an edge of an upper
  -- matrix the service's packet may not be accepted, and with an edge of a lower one it must be.
  abbrev pub HoldsOfNames : Side → Dump (Prim_ W) → ℕ → Service → ℕ → ℕ → Bool → Type 0
  HoldsOfNames Side.Upper dump chain service s d edge = edge ≡ false → (p : Packet) → IsValid W p → IsBetween service s d p →
      May holds_of dump chain p → ⊥
  HoldsOfNames Side.Lower dump chain service s d edge = edge ≡ true → (p : Packet) → IsValid W p → IsBetween service s d p →
      Must holds_of dump chain p

  -- so does each edge of a matrix
  abbrev pub HoldsOfAllNames : Side → Dump (Prim_ W) → ℕ → Service → Matrix W → Type 0
  HoldsOfAllNames side dump chain service matrix = (i j s d : ℕ) → IsIn matrix.classes i s → IsIn matrix.classes j d →
      HoldsOfNames side dump chain service s d (has_edge matrix.edges i j)

  -- whether some rules with their policy accept the service's packet from `s` to `d`
  abbrev pub accepts_service : List (SimpleRule W) → Verdict → Service → ℕ → ℕ → Bool
  accepts_service rules policy service s d = unwrap_or (first_of rules (service_packet service s d)) (is_accept policy)

  -- the addresses to which it is accepted from `s`
  abbrev pub IsRow : List (SimpleRule W) → Verdict → Service → ℕ → List Range → Type 0
  IsRow rules policy service s set = (d : ℕ) → d < 2 ^ W → has set d ≡ accepts_service rules policy service s d

  -- the addresses from which it is accepted to `d`
  abbrev pub IsColumn : List (SimpleRule W) → Verdict → Service → ℕ → List Range → Type 0
  IsColumn rules policy service d set = (s : ℕ) → s < 2 ^ W → has set s ≡ accepts_service rules policy service s d
