-- Lengths and masks of a width.
use Rattle.std.specs.Prelude.{◌≡◌, ◌≤◌, ◌-◌, ◌%◌, ◌^◌, ℕ}

-- the number below 2 ^ width whose highest bits are set, `len` of them, and no other
abbrev pub mask_of : ℕ → ℕ → ℕ
mask_of width len = 2 ^ width - 2 ^ (width - len)

-- the value with all bits past its first `len` cleared
abbrev pub shortened : ℕ → ℕ → ℕ → ℕ
shortened width len value = value - value % 2 ^ (width - len)

-- no length has this mask
abbrev pub HasHole : ℕ → ℕ → Type 0
HasHole width mask = (len : ℕ) → len ≤ width → mask ≡ mask_of width len → ⊥
