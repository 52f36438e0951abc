-- Tests of output interfaces, told by the destinations that are sent out by these.
use Rattle.std.specs.Prelude.{ℕ, List}
use Rattle.fw_rule.specs.declared.rule.Lit.{Lit}
use Rattle.fw_rule.specs.declared.rule.Dump.{Dump}
use Rattle.name_set.specs.Patterns.{fits}
use Rattle.primitives.specs.Holds.{IsValid}
use Rattle.primitives.specs.declared.prim.Packet.{Packet}
use Rattle.primitives.specs.declared.prim.Prim_.{Prim_}
use Rattle.iface_space.specs.declared.hop.Hop.{Hop}
use Rattle.iface_space.specs.Replaced.{replaced, replaced_literal, SameMay, SameMust}
use Rattle.iface_space.specs.Routes.{targets_of, Respects}

module _ {W : ℕ} (hops : List Hop) where
  -- in place of a test of the output interface's name: that the destination is sent out by one whose name the pattern matches
  abbrev pub routed_test : Prim_ W → Prim_ W
  routed_test (Prim_.OutName pattern) = Prim_.Dst (targets_of W hops (fits pattern))
  routed_test test = test

  -- a known literal that is such a test keeps its negation; each other one stays
  abbrev pub routed_literal : Lit (Prim_ W) → Lit (Prim_ W)
  routed_literal = replaced_literal routed_test

  -- the dump with them; all else stays
  abbrev pub routed : Dump (Prim_ W) → Dump (Prim_ W)
  routed dump = replaced routed_test dump

  -- of a valid packet that respects the routes the dump with them says what the dump itself says
  module _ (dump : Dump (Prim_ W)) (chain : ℕ) (p : Packet) where
    abbrev pub MayStays : Type 0
    MayStays = IsValid W p → Respects W hops p → SameMay (routed dump) dump chain p

    abbrev pub MustStays : Type 0
    MustStays = IsValid W p → Respects W hops p → SameMust (routed dump) dump chain p
