-- The numbers that words of flags and states stand for are small.
use Rattle.std.proofs.Common.{◌≡◌, ◌<◌, ℕ, List, arith, Option, Some, None, Result, Ok, Err, IfOk, IfSome}
use Rattle.std.specs.Option.{ok_or}
use Rattle.primitives.specs.Tables.{number_in, state_names}
use Rattle.primitives.specs.Words.{SpellsFlags}
use Rattle.primitives.proofs.WordLemmas.{spelled_small, state_small}

-- what is read of a value, or nothing
pub flags_of_value : {E : Type 0} (value : List ℕ) (o : Option ℕ) (e : E) (r : Result ℕ E) → IfSome o (SpellsFlags value) → r ≡ ok_or o e → IfOk r (λ n. n < 64)
flags_of_value value (Some n) e (Ok m) is from = let same : m ≡ n = cc in let small = spelled_small value n is in omega (arith, same, small)
flags_of_value value (Some n) e (Err f) is from = tt
flags_of_value value None e (Ok m) is from = absurd (cc)
flags_of_value value None e (Err f) is from = tt

pub state_fits : (text : List ℕ) (n : ℕ) → number_in state_names text ≡ Some n → n < 5
state_fits text n is = state_small text n is
