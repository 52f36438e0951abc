-- Names of interfaces as a command line spells them.
use Rattle.std.specs.Prelude.{ℕ, ◌+◌, ◌*◌, ◌==◌, nat_lt, Bool, List, [], ◌∷◌, Option, None, Some, codes, drop, if◌then◌else◌}
use Rattle.std.specs.Char.{digit_value}
use Rattle.std.specs.List.{starts_with}

-- the value of a hexadecimal digit, in either case
abbrev pub hex_value : ℕ → Option ℕ
hex_value digit = if nat_lt (digit_value digit) 16 then Some (digit_value digit) else None

-- the byte of two values below 16, the high four bits first
abbrev pub byte_of : Option ℕ → Option ℕ → Option ℕ
byte_of None low = None
byte_of (Some high) None = None
byte_of (Some high) (Some low) = Some (16 * high + low)

-- one byte before the others, where they are all there
abbrev pub byte_before : Option ℕ → Option (List ℕ) → Option (List ℕ)
byte_before None bytes = None
byte_before (Some byte) None = None
byte_before (Some byte) (Some bytes) = Some (byte ∷ bytes)

-- the bytes that pairs of digits spell
abbrev pub bytes_of : List ℕ → Option (List ℕ)
bytes_of [] = Some []
bytes_of (digit ∷ []) = None
bytes_of (high ∷ low ∷ digits) = byte_before (byte_of (hex_value high) (hex_value low)) (bytes_of digits)

-- the text begins with `hex:`
abbrev pub is_spelled : List ℕ → Bool
is_spelled text = starts_with (λ a b. a == b) text (codes "hex:")

-- the name of a text: what the digits after `hex:` spell, or else the text itself
abbrev pub name_of : List ℕ → Option (List ℕ)
name_of text = if is_spelled text then bytes_of (drop 4 text) else Some text
