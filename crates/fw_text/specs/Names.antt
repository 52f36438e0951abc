-- How a name is shown.
use Rattle.std.specs.Prelude.{ℕ, ◌+◌, ◌/◌, ◌%◌, ◌==◌, ◌&&◌, nat_lt, Bool, not, List, [], ◌∷◌, ◌++◌, codes, if◌then◌else◌}
use Rattle.std.specs.List.{list_all, starts_with}
use Rattle.primitives.specs.Bytes.{is_plain_byte}

-- a name that could be taken for a spelled one
abbrev pub begins_as_spelled : List ℕ → Bool
begins_as_spelled name = starts_with (λ a b. a == b) name (codes "hex:")

-- a name that is shown as it is
abbrev pub is_plain : List ℕ → Bool
is_plain name = not (begins_as_spelled name) && list_all is_plain_byte name

-- the lower-case digit of a value below 16
abbrev pub hex_digit : ℕ → ℕ
hex_digit value = if nat_lt value 10 then 48 + value else 87 + value

-- each byte as two digits, the high four bits first
abbrev pub hex_of : List ℕ → List ℕ
hex_of [] = []
hex_of (b ∷ bytes) = hex_digit (b / 16) ∷ hex_digit (b % 16) ∷ hex_of bytes

abbrev pub shown_name : List ℕ → List ℕ
shown_name name = if is_plain name then name else codes "hex:" ++ hex_of name
