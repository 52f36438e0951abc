-- Tests of input interfaces, told by the sources behind these.
use Rattle.std.specs.Prelude.{ℕ, List}
use Rattle.fw_rule.specs.declared.rule.Lit.{Lit}
use Rattle.fw_rule.specs.declared.rule.Dump.{Dump}
use Rattle.name_set.specs.Patterns.{fits}
use Rattle.primitives.specs.Holds.{IsValid}
use Rattle.primitives.specs.declared.prim.Packet.{Packet}
use Rattle.primitives.specs.declared.prim.Prim_.{Prim_}
use Rattle.iface_space.specs.declared.zones.Zone.{Zone}
use Rattle.iface_space.specs.Replaced.{replaced, replaced_literal, SameMay, SameMust}
use Rattle.iface_space.specs.Zones.{sources_of, Respects}

module _ {W : ℕ} (zones : List (Zone W)) where
  -- in place of a test of the input interface's name: that the source lies in a zone whose name the pattern matches
  abbrev pub assigned_test : Prim_ W → Prim_ W
  assigned_test (Prim_.InName pattern) = Prim_.Src (sources_of zones (fits pattern))
  assigned_test test = test

  -- a known literal that is such a test keeps its negation; each other one stays
  abbrev pub assigned_literal : Lit (Prim_ W) → Lit (Prim_ W)
  assigned_literal = replaced_literal assigned_test

  -- the dump with them; all else stays
  abbrev pub assigned : Dump (Prim_ W) → Dump (Prim_ W)
  assigned dump = replaced assigned_test dump

  -- of a valid packet that respects the zones the dump with them says what the dump itself says
  module _ (dump : Dump (Prim_ W)) (chain : ℕ) (p : Packet) where
    abbrev pub MayStays : Type 0
    MayStays = IsValid W p → Respects zones p → SameMay (assigned dump) dump chain p

    abbrev pub MustStays : Type 0
    MustStays = IsValid W p → Respects zones p → SameMust (assigned dump) dump chain p
