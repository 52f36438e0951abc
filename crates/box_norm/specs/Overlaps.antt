-- What two cubes have in common, and what one has without the other.
use Rattle.std.specs.Prelude.{ℕ, List, [], ◌∷◌, ◌++◌, Bool, false, Option, None, Some, if◌then◌else◌, option_to_list, bit_and, bit_xor}
use Rattle.std.specs.List.{flat_map}
use Rattle.interval_set.specs.Spelling.{set_and, set_minus}
use Rattle.name_set.specs.declared.pattern.Pattern.{Pattern}
use Rattle.name_set.specs.declared.set.NameSet.{NameSet}
use Rattle.name_set.specs.Names.{cut_of, cut_not_of}
use Rattle.primitives.specs.declared.prim.Packet.{Packet}
use Rattle.box_norm.specs.declared.cube.Cube.{Cube}
use Rattle.box_norm.specs.Cubes.{holds_cube, is_none, kept}

-- the set cut by the complement of each pattern in turn
abbrev pub without_each : Option NameSet → List Pattern → Option NameSet
without_each None ps = None
without_each (Some s) [] = Some s
without_each (Some s) (p ∷ ps) = without_each (cut_not_of s p) ps

-- the names that both sets have
abbrev pub names_common : NameSet → NameSet → Option NameSet
names_common a b = without_each (cut_of a b.base) b.excluded

-- the set cut by each pattern
abbrev pub cut_by_each : Option NameSet → List Pattern → List NameSet
cut_by_each None ps = []
cut_by_each (Some s) ps = flat_map (λ p. option_to_list (cut_of s p)) ps

-- the names that the first set has and the second lacks: those that its base doesn't match, then those of each exclusion
abbrev pub names_less : NameSet → NameSet → List NameSet
names_less a b = option_to_list (cut_not_of a b.base) ++ cut_by_each (cut_of a b.base) b.excluded

-- in each dimension what both cubes have, where these are the names
abbrev pub both_of : {W : ℕ} → Cube W → Cube W → NameSet → NameSet → Cube W
both_of {W} a b in_name out_name = record {
  in_name = in_name;
  out_name = out_name;
  src = set_and W a.src b.src;
  dst = set_and W a.dst b.dst;
  proto = set_and 8 a.proto b.proto;
  sport = set_and 16 a.sport b.sport;
  dport = set_and 16 a.dport b.dport;
  flags = bit_and a.flags b.flags;
  state = bit_and a.state b.state;
  icmp = set_and 8 a.icmp b.icmp;
}

-- the cube, unless a dimension is empty
abbrev pub unless_none : {W : ℕ} → Cube W → Option (Cube W)
unless_none c = if is_none c then None else Some c

-- the cube of what both have, where the names are these
abbrev pub and_names : {W : ℕ} → Cube W → Cube W → Option NameSet → Option NameSet → Option (Cube W)
and_names a b None out_name = None
and_names a b (Some in_name) None = None
and_names a b (Some in_name) (Some out_name) = unless_none (both_of a b in_name out_name)

-- the cube of what both have, unless a dimension is empty
abbrev pub and_of : {W : ℕ} → Cube W → Cube W → Option (Cube W)
and_of a b = and_names a b (names_common a.in_name b.in_name) (names_common a.out_name b.out_name)

-- whether the packet is in the cube that may be absent
abbrev pub holds_some : {W : ℕ} → Option (Cube W) → Packet → Bool
holds_some None p = false
holds_some (Some c) p = holds_cube c p

-- the dimensions of `common` up to the one that is named, and the later ones of the cube
abbrev pub to_in_name : {W : ℕ} → Cube W → Cube W → Cube W
to_in_name common c = record c { in_name = common.in_name }

abbrev pub to_out_name : {W : ℕ} → Cube W → Cube W → Cube W
to_out_name common c = record (to_in_name common c) { out_name = common.out_name }

abbrev pub to_src : {W : ℕ} → Cube W → Cube W → Cube W
to_src common c = record (to_out_name common c) { src = common.src }

abbrev pub to_dst : {W : ℕ} → Cube W → Cube W → Cube W
to_dst common c = record (to_src common c) { dst = common.dst }

abbrev pub to_proto : {W : ℕ} → Cube W → Cube W → Cube W
to_proto common c = record (to_dst common c) { proto = common.proto }

abbrev pub to_sport : {W : ℕ} → Cube W → Cube W → Cube W
to_sport common c = record (to_proto common c) { sport = common.sport }

abbrev pub to_dport : {W : ℕ} → Cube W → Cube W → Cube W
to_dport common c = record (to_sport common c) { dport = common.dport }

abbrev pub to_flags : {W : ℕ} → Cube W → Cube W → Cube W
to_flags common c = record (to_dport common c) { flags = common.flags }

abbrev pub to_state : {W : ℕ} → Cube W → Cube W → Cube W
to_state common c = record (to_flags common c) { state = common.state }

-- the cube with each of these sets for its input names
abbrev pub with_in_names : {W : ℕ} → Cube W → List NameSet → List (Cube W)
with_in_names c sets = flat_map (λ s. kept (record c { in_name = s })) sets

-- the cube with each of these sets for its output names
abbrev pub with_out_names : {W : ℕ} → Cube W → List NameSet → List (Cube W)
with_out_names c sets = flat_map (λ s. kept (record c { out_name = s })) sets

-- the pieces of `a` without `b`, by what they have in common: at each dimension that of `a` without that of `b`, the earlier
-- dimensions of what they have in common, and the later ones of `a`
abbrev pub minus_common : {W : ℕ} → Cube W → Cube W → Option (Cube W) → List (Cube W)
minus_common a b None = a ∷ []
minus_common {W} a b (Some common) =
    with_in_names a (names_less a.in_name b.in_name)
    ++ with_out_names (to_in_name common a) (names_less a.out_name b.out_name)
    ++ kept (record (to_out_name common a) { src = set_minus W a.src b.src })
    ++ kept (record (to_src common a) { dst = set_minus W a.dst b.dst })
    ++ kept (record (to_dst common a) { proto = set_minus 8 a.proto b.proto })
    ++ kept (record (to_proto common a) { sport = set_minus 16 a.sport b.sport })
    ++ kept (record (to_sport common a) { dport = set_minus 16 a.dport b.dport })
    ++ kept (record (to_dport common a) { flags = bit_xor a.flags (bit_and a.flags b.flags) })
    ++ kept (record (to_flags common a) { state = bit_xor a.state (bit_and a.state b.state) })
    ++ kept (record (to_state common a) { icmp = set_minus 8 a.icmp b.icmp })

-- the pieces of the first cube without the second
abbrev pub minus_of : {W : ℕ} → Cube W → Cube W → List (Cube W)
minus_of a b = minus_common a b (and_of a b)
