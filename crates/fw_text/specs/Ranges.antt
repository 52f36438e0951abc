-- How ranges of addresses are shown.
use Rattle.std.specs.Prelude.{ℕ, ◌==◌, ◌++◌, List, codes, if◌then◌else◌}
use Rattle.std.specs.List.{join_by}
use Rattle.interval_set.specs.declared.set.Range.{Range}

-- `text_of` is the one text of an address
module _ (text_of : ℕ → List ℕ) where
  -- the first and the last address, and one address alone where they are the same
  abbrev pub range_text : Range → List ℕ
  range_text r = if r.lo == r.hi then text_of r.lo else text_of r.lo ++ codes "-" ++ text_of r.hi

  -- the ranges, with commas between them
  abbrev pub ranges_text : List Range → List ℕ
  ranges_text ranges = join_by range_text (codes ",") ranges
