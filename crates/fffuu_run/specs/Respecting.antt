-- The dump that a matrix with zones or routes is one of, and the packets of which it tells.
use Rattle.std.specs.Prelude.{ℕ, Bool, true, false, List, [], ◌∷◌}
use Rattle.primitives.specs.declared.prim.Packet.{Packet}
use Rattle.primitives.specs.declared.prim.Prim_.{Prim_}
use Rattle.fw_rule.specs.declared.rule.Dump.{Dump}
use Rattle.fw_rule.specs.Hiding.{hidden_by}
use Rattle.iface_space.specs.declared.hop.Hop.{Hop}
use Rattle.iface_space.specs.Assigned.{assigned}
use Rattle.iface_space.specs.Routed.{routed}
use Rattle.iface_space.specs.Routes as routes
use Rattle.iface_space.specs.Zones as zones
use Rattle.request.specs.Spaces.{routes_of, zones_of}
use Rattle.request.specs.declared.types.Claim.{Claim}
use Rattle.simple_filter.specs.Hidden.{hidden, stands_in}
use Rattle.simple_filter.specs.declared.hiding.Hide.{Hide}

module _ {W : ℕ} where
  -- where there are zones, tests of sources stand in place of those of input interfaces
  abbrev pub with_zones : List Claim → Dump (Prim_ W) → Dump (Prim_ W)
  with_zones [] dump = dump
  with_zones claims dump = assigned (zones_of W claims) dump

  -- where there are routes, tests of destinations stand in place of those of output interfaces
  abbrev pub with_routes : List Hop → Dump (Prim_ W) → Dump (Prim_ W)
  with_routes [] dump = dump
  with_routes hops dump = routed (routes_of W hops) dump

  -- both
  abbrev pub with_spaces : List Claim → List Hop → Dump (Prim_ W) → Dump (Prim_ W)
  with_spaces claims hops dump = with_routes hops (with_zones claims dump)

  -- a test of the name of the input interface
  abbrev pub is_in_name : Prim_ W → Bool
  is_in_name (Prim_.InName pattern) = true
  is_in_name x = false

  -- the dump itself, with the tests hidden of the interfaces that neither zones nor routes tell of
  abbrev pub seen_by : List Claim → List Hop → Dump (Prim_ W) → Dump (Prim_ W)
  seen_by [] [] dump = hidden Hide.BothNames dump
  seen_by (claim ∷ claims) [] dump = hidden Hide.OutNames dump
  seen_by [] (hop ∷ hops) dump = hidden_by (stands_in is_in_name) dump
  seen_by (claim ∷ claims) (hop ∷ hops) dump = dump

module _ (W : ℕ) where
  -- where there are zones, the packet respects them
  abbrev pub RespectsZones : List Claim → Packet → Type 0
  RespectsZones [] p = Unit {0}
  RespectsZones claims p = zones.Respects (zones_of W claims) p

  -- where there are routes, so it does them
  abbrev pub RespectsRoutes : List Hop → Packet → Type 0
  RespectsRoutes [] p = Unit {0}
  RespectsRoutes hops p = routes.Respects W (routes_of W hops) p
