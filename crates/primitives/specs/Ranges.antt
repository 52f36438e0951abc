-- Ranges of numbers of w bits.
use Rattle.std.specs.Prelude.{ℕ, ◌-◌, ◌^◌, ◌≤◌}
use Rattle.interval_set.specs.declared.set.Range.{Range}

-- the range isn't empty, and ends below 2 ^ w
abbrev pub IsRange : ℕ → Range → Type 0
IsRange w r = (r.lo ≤ r.hi) × (r.hi ≤ 2 ^ w - 1)
