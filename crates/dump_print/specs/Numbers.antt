-- How sets of protocols and of types of messages are written, and which of them one line can say.
use Rattle.std.specs.Prelude.{ℕ, zero, suc, ◌+◌, ◌-◌, ◌==◌, ◌∷◌, [], List, Bool, true, false, not, ◌&&◌, if◌then◌else◌}
use Rattle.std.specs.List.{flat_map}
use Rattle.interval_set.specs.declared.set.Range.{Range}
use Rattle.interval_set.specs.Spelling.{set_not}
use Rattle.primitives.specs.Tables.{name_of, proto_names}
use Rattle.dump_grammar.specs.Lines.{Text}
use Rattle.dump_print.specs.declared.numbers.Numbers.{Numbers}
use Rattle.dump_print.specs.Addresses.{is_everything}

-- the first name of the number, or the number
abbrev pub protocol_text : ℕ → Text
protocol_text n = name_of proto_names n

-- a set by what it lacks
abbrev pub said_without : List Range → Numbers
said_without (r ∷ []) = if r.lo == r.hi then Numbers.AllBut r.lo else Numbers.Others
said_without _ = Numbers.Others

-- what one line can say of a set of numbers below 256; `unsaid` is a number that stands for something else
abbrev pub said_of : ℕ → List Range → Numbers
said_of unsaid (r ∷ []) =
    if is_everything 8 r then Numbers.Every
    else if (r.lo == r.hi) && not (r.lo == unsaid) then Numbers.Only r.lo
    else said_without (set_not 8 (r ∷ []))
said_of unsaid rs = said_without (set_not 8 rs)

-- `-p 0` would be every protocol
abbrev pub protocols_of : List Range → Numbers
protocols_of rs = said_of 0 rs

-- type 255 isn't read as a type
abbrev pub types_of : List Range → Numbers
types_of rs = said_of 255 rs

-- the number of a set of one
abbrev pub number_of : Numbers → ℕ
number_of (Numbers.Only n) = n
number_of _ = 0

-- whether one line can say the numbers
abbrev pub are_plain_numbers : Numbers → Bool
are_plain_numbers Numbers.Others = false
are_plain_numbers _ = true

-- `count` numbers from the first on
abbrev pub numbers_from : ℕ → ℕ → List ℕ
numbers_from first zero = []
numbers_from first (suc count) = first ∷ numbers_from (first + 1) count

-- the numbers of the ranges
abbrev pub numbers_of : List Range → List ℕ
numbers_of rs = flat_map (λ (r : Range). numbers_from r.lo (r.hi + 1 - r.lo)) rs

-- the numbers that a set lacks, in ascending order
abbrev pub lacking : List Range → List ℕ
lacking rs = numbers_of (set_not 8 rs)
