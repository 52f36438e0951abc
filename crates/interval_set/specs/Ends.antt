-- Where a list of ranges ends, for the passes that add to it.
use Rattle.std.specs.Prelude.{ℕ, ◌+◌, ◌≤◌, List, [], ◌∷◌}
use Rattle.interval_set.specs.declared.set.Range.{Range}

-- the least number at which a range after these may begin, and `from` where there are none
abbrev pub next_after : ℕ → List Range → ℕ
next_after from [] = from
next_after from (r ∷ rs) = next_after (r.hi + 2) rs

-- where the last of these begins, and `from` where there are none
abbrev pub last_low : ℕ → List Range → ℕ
last_low from [] = from
last_low from (r ∷ rs) = last_low r.lo rs

-- the first of these, if any, begins at `low` or above
abbrev pub BeginsFrom : ℕ → List Range → Type 0
BeginsFrom low [] = Unit {0}
BeginsFrom low (r ∷ rs) = low ≤ r.lo
