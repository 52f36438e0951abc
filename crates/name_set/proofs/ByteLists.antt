-- Lists of numbers that are bytes.
use Rattle.std.proofs.Common.{◌<◌, ℕ, List, [], ◌∷◌, ◌++◌, Fits, w8, slice_index, zero, suc, arith}
use Rattle.name_set.specs.Bytes.{AreBytes}

-- a list of numbers, each of which fits a byte
pub bytes_of : (xs : List ℕ) → ((i : ℕ) → Fits w8 (slice_index xs i)) → AreBytes xs
bytes_of [] fit = tt
bytes_of (x ∷ xs) fit = (let f : Fits w8 x = fit zero in omega (arith, f), bytes_of xs (λ i. fit (suc i)))

pub bytes_more : (xs : List ℕ) (b : ℕ) → AreBytes xs → b < 256 → AreBytes (xs ++ b ∷ [])
bytes_more [] b are small = (small, tt)
bytes_more (x ∷ xs) b are small = (are.0, bytes_more xs b are.1 small)
