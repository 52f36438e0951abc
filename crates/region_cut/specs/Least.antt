-- The least packet of a cube, and of what two cubes have in common.
use Rattle.std.specs.Prelude.{ℕ, ◌≡◌, ◌≤◌, Some, true}
use Rattle.interval_set.specs.Numbers.{IsLeast as IsLeastNumber}
use Rattle.name_set.specs.Least.{IsLeast as IsLeastName}
use Rattle.primitives.specs.declared.prim.Packet.{Packet}
use Rattle.primitives.specs.Holds.{IsValid, has_bit}
use Rattle.box_norm.specs.declared.cube.Cube.{Cube}
use Rattle.box_norm.specs.Cubes.{holds_cube}
use Rattle.box_norm.specs.Overlaps.{and_of}

-- the least number whose bit is set
abbrev pub IsLeastBit : ℕ → ℕ → Type 0
IsLeastBit bits n = (has_bit bits n ≡ true) × ((k : ℕ) → has_bit bits k ≡ true → n ≤ k)

-- Each field of the packet is the least value of the cube's dimension. Of names the least is the shortest, and of equally
-- long ones the first by bytes.
pub record IsLeastPacket {W : ℕ} (c : Cube W) (p : Packet) : Type 0 where
  pub in_name : IsLeastName c.in_name (Some p.in_name)
  pub out_name : IsLeastName c.out_name (Some p.out_name)
  pub src : IsLeastNumber c.src p.src
  pub dst : IsLeastNumber c.dst p.dst
  pub proto : IsLeastNumber c.proto p.proto
  pub sport : IsLeastNumber c.sport p.sport
  pub dport : IsLeastNumber c.dport p.dport
  pub flags : IsLeastBit c.flags p.flags
  pub state : IsLeastBit c.state p.state
  pub icmp : IsLeastNumber c.icmp p.icmp

-- no valid packet is in both cubes
abbrev pub AreApart : {W : ℕ} → Cube W → Cube W → Type 0
AreApart {W} a b = (p : Packet) → IsValid W p → holds_cube a p ≡ true → holds_cube b p ≡ true → ⊥

-- the packet is the least one of what both cubes have in common, and it is valid
pub record IsHit {W : ℕ} (a b : Cube W) (p : Packet) : Type 0 where
  pub common : Cube W
  pub common_is : and_of a b ≡ Some common
  pub least : IsLeastPacket common p
  pub valid : IsValid W p
