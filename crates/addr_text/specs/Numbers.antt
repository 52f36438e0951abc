-- What every decimal number's text begins with.
use Rattle.std.specs.Prelude.{◌≡◌, ◌<◌, ◌≤◌, ℕ, List, length, slice_index}

-- a digit, and no 0 before another byte
pub record BeginsWell (text : List ℕ) : Type 0 where
  pub some : 0 < length text
  pub digit : 48 ≤ slice_index text 0
  pub alone : slice_index text 0 ≡ 48 → length text ≡ 1
