-- The numbers that a line can say, and those that a set lacks.
use Rattle.std.proofs.Common.{◌≡◌, ◌≢◌, ◌∙◌, ◌^◌, ◌≤◌, ◌&&◌, ℕ, List, Bool, true, false, not, nat_lt, sym, ap, arith}
use Rattle.std.proofs.lemmas.Bool.Decides.{nat_tests}
use Rattle.interval_set.specs.declared.set.Range.{Range}
use Rattle.interval_set.specs.Numbers.{has}
use Rattle.interval_set.specs.Spelling.{set_not}
use Rattle.interval_set.proofs.Spelling.{not_has}

-- a number below 256 that isn't the one that stands for something else
abbrev pub IsNumberBut : ℕ → ℕ → Type 0
IsNumberBut unsaid n = (n ≤ 255) × (n ≢ unsaid)

-- a protocol's number
pub number_some : (n : ℕ) → IsNumberBut 0 n → 1 ≤ n
number_some n is = omega (arith, is.1)

-- a type's number
pub type_small : (n : ℕ) → IsNumberBut 255 n → n ≤ 254
type_small n is = omega (arith, is.0, is.1)

lacked_small : (h : Bool) (n : ℕ) → (nat_lt n (2 ^ 8) && h) ≡ true → n ≤ 255
lacked_small h n e = grind (arith, nat_tests)

lacked_none : (h : Bool) (n : ℕ) → (nat_lt n (2 ^ 8) && not h) ≡ true → h ≡ true → ⊥
lacked_none true n e f = grind (arith, nat_tests, e)
lacked_none false n e f = let wrong : false ≡ true = f in cc

-- what a set that holds that number lacks is another one below 256
pub lacked_number : (unsaid : ℕ) (rs : List Range) (n : ℕ) → has rs unsaid ≡ true → has (set_not 8 rs) n ≡ true → IsNumberBut unsaid n
lacked_number unsaid rs n holds lacked =
    let lacks = sym (not_has 8 rs n) ∙ lacked in
    (lacked_small (not (has rs n)) n lacks, λ e. lacked_none (has rs n) n lacks (ap (λ (m : ℕ). has rs m) e ∙ holds))
