-- The ranges of a set.
use Rattle.std.proofs.Common.{ℕ, ◌+◌, ◌-◌, ◌^◌, List, [], ◌∷◌}
use Rattle.std.specs.List.{AllByRecursion}
use Rattle.interval_set.specs.declared.set.Range.{Range}
use Rattle.interval_set.specs.Numbers.{Ascends}
use Rattle.primitives.specs.Ranges.{IsRange}

-- each of them is a range of numbers of w bits
pub ranges_of : (w from : ℕ) (rs : List Range) → Ascends (2 ^ w - 1) from rs → AllByRecursion (IsRange w) rs
ranges_of w from [] a = tt
ranges_of w from (r ∷ rs) a = ((a.1, a.2), ranges_of w (r.hi + 2) rs a.3)
