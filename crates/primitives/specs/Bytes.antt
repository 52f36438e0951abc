-- Bytes that a name holds as they are.
use Rattle.std.specs.Prelude.{ℕ, ◌==◌, ◌&&◌, ◌||◌, nat_le, Bool, codes}
use Rattle.std.specs.List.{list_any}

-- an ASCII letter or digit
abbrev pub is_letter_or_digit : ℕ → Bool
is_letter_or_digit b = (nat_le 48 b && nat_le b 57) || (nat_le 65 b && nat_le b 90) || (nat_le 97 b && nat_le b 122)

-- a byte that stands in a name as it is, shown or printed
abbrev pub is_plain_byte : ℕ → Bool
is_plain_byte b = is_letter_or_digit b || list_any (λ c. c == b) (codes "._+:@/-")
