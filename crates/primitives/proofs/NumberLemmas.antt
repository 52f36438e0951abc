-- A number's digits, one after another.
use Rattle.std.proofs.Common.{◌≡◌, ◌∙◌, ◌++◌, ◌+◌, ◌/◌, ◌%◌, ◌^◌, ◌<◌, ◌≤◌, ℕ, List, [], ◌∷◌, decimal, lit≤, ap, sym, arith}
use Rattle.std.proofs.Math.Nat.{lt_of_lt_of_le}
use Rattle.std.proofs.lemmas.Fmt.{decimal_digit, decimal_step_wide}
use Rattle.primitives.proofs.Growing.{grown}

wide : (n : ℕ) → n < 2 ^ 128 → n < 10 ^ 64
wide n l = lt_of_lt_of_le {n = n} {m = 2 ^ 128} {k = 10 ^ 64} l (lit≤ tt)

-- the last digit after the others
pub digit_added : (n : ℕ) (old mid new : List ℕ) → 10 ≤ n → n < 2 ^ 128 → mid ≡ old ++ decimal (n / 10) → new ≡ mid ++ (48 + n % 10) ∷ [] → new ≡ old ++ decimal n
digit_added n old mid new l s h k = grown old (decimal (n / 10)) mid ((48 + n % 10) ∷ []) new _ h k (decimal_step_wide n l (wide n s))

-- one digit alone
pub one_digit : (n : ℕ) (old mid new : List ℕ) → n < 10 → mid ≡ old → new ≡ mid ++ (48 + n % 10) ∷ [] → new ≡ old ++ decimal n
one_digit n old mid new l h k =
    let same : n % 10 ≡ n = omega arith in
    k ∙ (λ i. h i ++ (48 + same i) ∷ []) ∙ ap (λ t. old ++ t) (sym (decimal_digit n l))
