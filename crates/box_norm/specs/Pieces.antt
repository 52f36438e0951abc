-- The pieces of a cube where a test holds, and where it doesn't.
use Rattle.std.specs.Prelude.{ℕ, zero, suc, ◌^◌, ◌==◌, List, [], ◌∷◌, ◌++◌, Bool, true, false, Option, None, Some, if◌then◌else◌, bit_and, bit_or, bit_xor}
use Rattle.interval_set.specs.declared.set.Range.{Range}
use Rattle.interval_set.specs.Spelling.{set_and, set_minus}
use Rattle.name_set.specs.declared.set.NameSet.{NameSet}
use Rattle.name_set.specs.Names.{cut_of, cut_not_of}
use Rattle.primitives.specs.declared.prim.Prim_.{Prim_}
use Rattle.box_norm.specs.declared.cube.Cube.{Cube}
use Rattle.box_norm.specs.Cubes.{kept}

-- the set of one number
abbrev pub single : ℕ → List Range
single n = record { lo = n; hi = n } ∷ []

-- the flag numbers below `end` that match, as bits
unfoldable pub flags_where : ℕ → ℕ → ℕ → ℕ
flags_where mask comp zero = 0
flags_where mask comp (suc n) = if bit_and n mask == comp then bit_or (flags_where mask comp n) (2 ^ n) else flags_where mask comp n

abbrev pub kept_in : {W : ℕ} → Cube W → Option NameSet → List (Cube W)
kept_in c None = []
kept_in c (Some s) = kept (record c { in_name = s })

abbrev pub kept_out : {W : ℕ} → Cube W → Option NameSet → List (Cube W)
kept_out c None = []
kept_out c (Some s) = kept (record c { out_name = s })

-- where the test holds
abbrev pub cut_pieces : {W : ℕ} → Prim_ W → Cube W → List (Cube W)
cut_pieces {W} (Prim_.Src set) c = kept (record c { src = set_and W c.src set })
cut_pieces {W} (Prim_.Dst set) c = kept (record c { dst = set_and W c.dst set })
cut_pieces (Prim_.InName pattern) c = kept_in c (cut_of c.in_name pattern)
cut_pieces (Prim_.OutName pattern) c = kept_out c (cut_of c.out_name pattern)
cut_pieces (Prim_.Proto proto) c = kept (record c { proto = set_and 8 c.proto (single proto) })
cut_pieces (Prim_.SrcPorts ports) c = kept (record c { proto = set_and 8 c.proto (single ports.proto); sport = set_and 16 c.sport ports.set })
cut_pieces (Prim_.DstPorts ports) c = kept (record c { proto = set_and 8 c.proto (single ports.proto); dport = set_and 16 c.dport ports.set })
cut_pieces (Prim_.Flags mask comp) c = kept (record c { proto = set_and 8 c.proto (single 6); flags = bit_and c.flags (flags_where mask comp 64) })
cut_pieces (Prim_.State states) c = kept (record c { state = bit_and c.state states })
cut_pieces (Prim_.IcmpKind m) c = kept (record c { proto = set_and 8 c.proto (single m.proto); icmp = set_and 8 c.icmp (single m.kind) })
cut_pieces Prim_.Always c = kept c

-- where it doesn't
abbrev pub omit_pieces : {W : ℕ} → Prim_ W → Cube W → List (Cube W)
omit_pieces {W} (Prim_.Src set) c = kept (record c { src = set_minus W c.src set })
omit_pieces {W} (Prim_.Dst set) c = kept (record c { dst = set_minus W c.dst set })
omit_pieces (Prim_.InName pattern) c = kept_in c (cut_not_of c.in_name pattern)
omit_pieces (Prim_.OutName pattern) c = kept_out c (cut_not_of c.out_name pattern)
omit_pieces (Prim_.Proto proto) c = kept (record c { proto = set_minus 8 c.proto (single proto) })
omit_pieces (Prim_.SrcPorts ports) c = kept (record c { proto = set_minus 8 c.proto (single ports.proto) })
    ++ kept (record c { proto = set_and 8 c.proto (single ports.proto); sport = set_minus 16 c.sport ports.set })
omit_pieces (Prim_.DstPorts ports) c = kept (record c { proto = set_minus 8 c.proto (single ports.proto) })
    ++ kept (record c { proto = set_and 8 c.proto (single ports.proto); dport = set_minus 16 c.dport ports.set })
omit_pieces (Prim_.Flags mask comp) c = kept (record c { proto = set_minus 8 c.proto (single 6) })
    ++ kept (record c { proto = set_and 8 c.proto (single 6); flags = bit_xor c.flags (bit_and c.flags (flags_where mask comp 64)) })
omit_pieces (Prim_.State states) c = kept (record c { state = bit_xor c.state (bit_and c.state states) })
omit_pieces (Prim_.IcmpKind m) c = kept (record c { proto = set_minus 8 c.proto (single m.proto) })
    ++ kept (record c { proto = set_and 8 c.proto (single m.proto); icmp = set_minus 8 c.icmp (single m.kind) })
omit_pieces Prim_.Always c = []

-- where the test holds, or, if it is not to hold, where it doesn't
abbrev pub pieces_of : {W : ℕ} → Bool → Prim_ W → Cube W → List (Cube W)
pieces_of true x = cut_pieces x
pieces_of false x = omit_pieces x
