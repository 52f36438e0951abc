-- Numbers as digits in a base, the highest digit first.
use Rattle.std.specs.Prelude.{ℕ, zero, suc, ◌+◌, ◌*◌, ◌/◌, ◌%◌, ◌^◌, List, [], ◌∷◌, length}

-- the number that has these digits
abbrev pub number_of : ℕ → List ℕ → ℕ
number_of base [] = 0
number_of base (digit ∷ digits) = digit * base ^ length digits + number_of base digits

-- the lowest digits of a number, `count` of them
abbrev pub digits_of : ℕ → ℕ → ℕ → List ℕ
digits_of base zero n = []
digits_of base (suc count) n = (n / base ^ count % base) ∷ digits_of base count n
