-- What the parts of the search answer.
use Rattle.std.specs.Prelude.{ℕ, ◌≡◌, false, List, Option, None, Some}
use Rattle.primitives.specs.declared.prim.Packet.{Packet}
use Rattle.primitives.specs.Holds.{IsValid}
use Rattle.box_norm.specs.declared.cube.Cube.{Cube}
use Rattle.box_norm.specs.Cubes.{holds_cube}
use Rattle.region_cut.specs.Least.{AreApart, IsHit, IsLeastPacket}
use Rattle.region_cut.specs.Search.{AllApart, IsFirstHit}

module _ {W : ℕ} where
  -- the least packet of the cube, which is valid, or no valid packet is in it
  abbrev pub IsLeastOf : Cube W → Option Packet → Type 0
  IsLeastOf c None = (p : Packet) → IsValid W p → holds_cube c p ≡ false
  IsLeastOf c (Some p) = IsLeastPacket c p × IsValid W p

  -- what the search in one region answers
  abbrev pub HitsOne : Cube W → Cube W → Option Packet → Type 0
  HitsOne region cube None = AreApart region cube
  HitsOne region cube (Some p) = IsHit region cube p

  -- what the search in several regions answers
  abbrev pub HitsFirst : List (Cube W) → Cube W → Option Packet → Type 0
  HitsFirst regions cube None = AllApart regions cube
  HitsFirst regions cube (Some p) = IsFirstHit regions cube p
