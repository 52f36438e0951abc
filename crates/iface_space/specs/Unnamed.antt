-- Patterns of interface names that no zone or hop answers to.
use Rattle.std.specs.Prelude.{ℕ, not, List, Option}
use Rattle.std.specs.List.{filter}
use Rattle.fw_rule.specs.declared.rule.Dump.{Dump}
use Rattle.name_set.specs.declared.pattern.Pattern.{Pattern}
use Rattle.primitives.specs.declared.prim.Prim_.{Prim_}
use Rattle.iface_space.specs.declared.hop.Hop.{Hop}
use Rattle.iface_space.specs.declared.tested.Direction.{Direction}
use Rattle.iface_space.specs.declared.zones.Zone.{Zone}
use Rattle.iface_space.specs.Routes.{has_hop_named}
use Rattle.iface_space.specs.Tested.{all_tested, once_each}
use Rattle.iface_space.specs.Zones.{has_zone_named}

module _ {W : ℕ} (dump : Dump (Prim_ W)) (ranks : List (Option ℕ)) where
  -- the patterns that are tested of input interfaces, each once, but for those that match a zone's name
  abbrev pub unnamed_inputs : List (Zone W) → List Pattern
  unnamed_inputs zones = filter (λ by. not (has_zone_named zones by)) (once_each (all_tested Direction.Input dump ranks))

  -- of output interfaces, but for those that match a hop's name
  abbrev pub unnamed_outputs : List Hop → List Pattern
  unnamed_outputs hops = filter (λ by. not (has_hop_named hops by)) (once_each (all_tested Direction.Output dump ranks))
