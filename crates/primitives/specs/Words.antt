-- What words of protocols and flags say, and how flags are written.
use Rattle.std.specs.Prelude.{ℕ, ◌≡◌, ◌==◌, ◌≤◌, ◌⊎◌, List, Some, if◌then◌else◌, codes, decimal}
use Rattle.primitives.specs.Tables.{IsNameList, flag_names, name_list, number_in, proto_names}

-- the text is a protocol's name, or a number to 255
abbrev pub SpellsProto : List ℕ → ℕ → Type 0
SpellsProto text number = (number_in proto_names text ≡ Some number) ⊎ ((number ≤ 255) × (text ≡ decimal number))

-- the text is ALL, NONE, or a list of flags
abbrev pub SpellsFlags : List ℕ → ℕ → Type 0
SpellsFlags text flags =
    ((text ≡ codes "ALL") × (flags ≡ 63)) ⊎ ((text ≡ codes "NONE") × (flags ≡ 0)) ⊎ IsNameList flag_names text flags

-- a list of flags, and NONE for no flag
abbrev pub flags_text : ℕ → List ℕ
flags_text flags = if flags == 0 then codes "NONE" else name_list flag_names flags
