-- The first number of a kind.
use Rattle.std.specs.Prelude.{ℕ, ◌<◌}

-- this is so of the number, and of none below it
abbrev pub IsFirst : (ℕ → Type 0) → ℕ → Type 0
IsFirst Is at = Is at × ((k : ℕ) → k < at → Is k → ⊥)
