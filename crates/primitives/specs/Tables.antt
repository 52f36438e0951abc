-- The names of protocols, states and flags: one table each, by which they are read and written.
use Rattle.std.specs.Prelude.{ℕ, ◌≡◌, ◌==◌, ◌^◌, List, [], ◌∷◌, Option, Some, None, if◌then◌else◌, bit_or, codes, decimal, filter, map}
use Rattle.std.specs.List.{join_by}
use Rattle.std.specs.Str.{bytes_eq}
use Rattle.basics.specs.Parts.{comma_parts}
use Rattle.primitives.specs.Holds.{has_bit}

-- a name and the number that it stands for
pub record Named : Type 0 where
  pub name : List ℕ
  pub number : ℕ

abbrev pub stands_for : List ℕ → ℕ → Named
stands_for name number = record { name = name; number = number }

-- protocols by their numbers
unfoldable pub proto_names : List Named
proto_names =
    stands_for (codes "icmp") 1 ∷
    stands_for (codes "igmp") 2 ∷
    stands_for (codes "tcp") 6 ∷
    stands_for (codes "udp") 17 ∷
    stands_for (codes "dccp") 33 ∷
    stands_for (codes "gre") 47 ∷
    stands_for (codes "esp") 50 ∷
    stands_for (codes "ah") 51 ∷
    stands_for (codes "ipv6-icmp") 58 ∷
    stands_for (codes "icmpv6") 58 ∷
    stands_for (codes "sctp") 132 ∷
    stands_for (codes "udplite") 136 ∷ []

-- states by their numbers
unfoldable pub state_names : List Named
state_names =
    stands_for (codes "INVALID") 0 ∷
    stands_for (codes "NEW") 1 ∷
    stands_for (codes "RELATED") 2 ∷
    stands_for (codes "ESTABLISHED") 3 ∷
    stands_for (codes "UNTRACKED") 4 ∷ []

-- flags of tcp by the places of their bits
unfoldable pub flag_names : List Named
flag_names =
    stands_for (codes "FIN") 0 ∷
    stands_for (codes "SYN") 1 ∷
    stands_for (codes "RST") 2 ∷
    stands_for (codes "PSH") 3 ∷
    stands_for (codes "ACK") 4 ∷
    stands_for (codes "URG") 5 ∷ []

-- the number of the first of these names that the text is
abbrev pub number_in : List Named → List ℕ → Option ℕ
number_in [] text = None
number_in (word ∷ words) text = if bytes_eq word.name text then Some word.number else number_in words text

-- the first of these names that has the number, else the number
abbrev pub name_of : List Named → ℕ → List ℕ
name_of [] n = decimal n
name_of (word ∷ words) n = if word.number == n then word.name else name_of words n

-- the number in which the bit of this place alone is set, where there is a place
abbrev pub bit_of : Option ℕ → Option ℕ
bit_of None = None
bit_of (Some place) = Some (2 ^ place)

-- the bit of the number of that name, where the text is one of the names
unfoldable pub bit_in : List Named → List ℕ → Option ℕ
bit_in names text = bit_of (number_in names text)

-- the bits of both, where both are there
abbrev pub both_bits : Option ℕ → Option ℕ → Option ℕ
both_bits None b = None
both_bits (Some a) None = None
both_bits (Some a) (Some b) = Some (bit_or a b)

-- the bits of all parts, where each part is one of the names
abbrev pub bits_in : List Named → List (List ℕ) → Option ℕ
bits_in names [] = Some 0
bits_in names (part ∷ parts) = both_bits (bit_in names part) (bits_in names parts)

-- the text is some of these names with commas between them, whose bits are these
abbrev pub IsNameList : List Named → List ℕ → ℕ → Type 0
IsNameList names text bits = bits_in names (comma_parts text) ≡ Some bits

-- those of the names whose bits are set, in order
abbrev pub names_of : List Named → ℕ → List (List ℕ)
names_of names bits = map (λ (word : Named). word.name) (filter (λ (word : Named). has_bit bits word.number) names)

-- with commas between them
abbrev pub name_list : List Named → ℕ → List ℕ
name_list names bits = join_by (λ (name : List ℕ). name) (codes ",") (names_of names bits)
