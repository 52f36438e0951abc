-- How sets of flags of tcp are written: as cubes, each a mask and those of its flags that are set.
use Rattle.std.specs.Prelude.{ℕ, zero, suc, ◌+◌, ◌*◌, ◌^◌, ◌&&◌, ◌++◌, ◌∷◌, [], List, Bool, true, false, not, map, if◌then◌else◌}
use Rattle.primitives.specs.Holds.{has_bit}
use Rattle.dump_print.specs.declared.flags.FlagCube.{FlagCube}

-- whether the test holds of each number below
abbrev pub all_below : ℕ → (ℕ → Bool) → Bool
all_below zero test = true
all_below (suc n) test = all_below n test && test n

abbrev pub same_truth : Bool → Bool → Bool
same_truth true b = b
same_truth false b = not b

-- a cube of the flags after the next one, with the next flag as the lowest bit of mask and comp
abbrev pub beside : ℕ → ℕ → FlagCube → FlagCube
beside mask comp cube = record { mask = 2 * cube.mask + mask; comp = 2 * cube.comp + comp }

-- The cubes of a set of numbers over `count` flags, of which the lowest bit is the next flag. Where the halves without
-- and with that flag are the same, it goes into no mask; else the half without it comes first. So a full set gives the
-- one cube of an empty mask, and an empty set gives none.
unfoldable pub flag_cubes : ℕ → (ℕ → Bool) → List FlagCube
flag_cubes zero has = if has 0 then record { mask = 0; comp = 0 } ∷ [] else []
flag_cubes (suc count) has =
    if all_below (2 ^ count) (λ n. same_truth (has (2 * n)) (has (2 * n + 1)))
    then map (beside 0 0) (flag_cubes count (λ n. has (2 * n)))
    else map (beside 1 0) (flag_cubes count (λ n. has (2 * n))) ++ map (beside 1 1) (flag_cubes count (λ n. has (2 * n + 1)))

-- a cube of the flags from one of this weight on, with the mask and the comp of the flags before it
abbrev pub placed : ℕ → FlagCube → FlagCube → FlagCube
placed weight front cube = record { mask = front.mask + weight * cube.mask; comp = front.comp + weight * cube.comp }

-- the cubes of a set that has a bit for each number of six flags
abbrev pub cubes_of : ℕ → List FlagCube
cubes_of flags = flag_cubes 6 (has_bit flags)
