-- Lists of cubes that share no packet.
use Rattle.std.specs.Prelude.{ℕ, ◌≤◌, ⊤, List, [], ◌∷◌, count_by}
use Rattle.std.specs.List.{AllByRecursion}
use Rattle.name_set.specs.declared.pattern.Pattern.{Pattern}
use Rattle.name_set.specs.Patterns.{AreApart}
use Rattle.primitives.specs.declared.prim.Packet.{Packet}
use Rattle.box_norm.specs.declared.cube.Cube.{Cube}
use Rattle.box_norm.specs.Cubes.{holds_cube}

-- no packet is in two of the cubes
abbrev pub AreDisjoint : {W : ℕ} → List (Cube W) → Type 0
AreDisjoint cubes = (p : Packet) → count_by (λ c. holds_cube c p) cubes ≤ 1

-- no two of the patterns have a name in common
abbrev pub AreAllApart : List Pattern → Type 0
AreAllApart [] = ⊤
AreAllApart (p ∷ ps) = AllByRecursion (AreApart p) ps × AreAllApart ps
