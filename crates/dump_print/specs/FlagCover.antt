-- Which cubes of flags a number matches.
use Rattle.std.specs.Prelude.{ℕ, ◌+◌, ◌==◌, ◌≡◌, ◌<◌, [], ◌∷◌, List, Bool, bit_and, if◌then◌else◌}
use Rattle.primitives.specs.Holds.{has_bit}
use Rattle.dump_print.specs.declared.flags.FlagCube.{FlagCube}
use Rattle.dump_print.specs.Flags.{cubes_of}

-- the flags of the mask that are set are exactly those of comp
abbrev pub matches : ℕ → FlagCube → Bool
matches n cube = bit_and n cube.mask == cube.comp

-- how many of the cubes the number matches
abbrev pub match_count : List FlagCube → ℕ → ℕ
match_count [] n = 0
match_count (cube ∷ cubes) n = (if matches n cube then 1 else 0) + match_count cubes n

-- a number of the set matches one cube, and any other none: the cubes are apart and together the set
abbrev pub CoverFlags : ℕ → Type 0
CoverFlags flags = (n : ℕ) → n < 64 → match_count (cubes_of flags) n ≡ (if has_bit flags n then 1 else 0)
