-- How lists of flags and of states are read.
use Rattle.std.proofs.Common.{◌≡◌, ◌∙◌, ◌<◌, ◌≤◌, ◌==◌, ◌&&◌, ◌||◌, ⊎_elim, ℕ, zero, suc, List, Bool, true, false, Option, Some, None, inl, inr, refl, sym, ap, arith, codes, if◌then◌else◌}
use Rattle.std.proofs.lemmas.Bool.{and_parts, cases_lt, eqb-true}
use Rattle.std.proofs.lemmas.Bool.Decides.{nat_tests}
use Rattle.basics.specs.Parts.{comma_parts}
use Rattle.primitives.specs.Tables.{IsNameList, Named, bit_in, bits_in, flag_names, name_list, state_names}
use Rattle.primitives.specs.Words.{SpellsFlags, flags_text}
use Rattle.dump_grammar.specs.Lines.{bare}
use Rattle.dump_print.specs.Flags.{all_below}
use Rattle.printed_text.proofs.WordLemmas.{CanStand, code_is_written, is_clean}

all_at : (m n : ℕ) (test : ℕ → Bool) → all_below m test ≡ true → n < m → test n ≡ true
all_at zero n test e l = absurd (omega arith)
all_at (suc m) n test e l =
    let both = and_parts (all_below m test) (test m) e in
    ⊎_elim (λ (less : n < m). all_at m n test both.0 less)
    (λ (more : m ≤ n). let same : m ≡ n = omega arith in ap test (sym same) ∙ both.1) (cases_lt n m)

-- whether that number is there
abbrev is_some_of : Option ℕ → ℕ → Bool
is_some_of None n = false
is_some_of (Some a) n = a == n

some_of : (o : Option ℕ) (n : ℕ) → is_some_of o n ≡ true → o ≡ Some n
some_of None n e = let wrong : false ≡ true = e in cc
some_of (Some a) n e = ap Some (eqb-true a n e)

or_other : (n : ℕ) (b : Bool) → 1 ≤ n → ((n == 0) || b) ≡ true → b ≡ true
or_other n b some e = grind (arith, nat_tests, e, some)

-- the list that is written of the bits is read as these bits, and can stand in a line
abbrev is_read : List Named → ℕ → Bool
is_read names n = is_some_of (bits_in names (comma_parts (name_list names n))) n && is_clean (name_list names n)

read_back : (names : List Named) (most n : ℕ) → all_below most (λ n. (n == 0) || is_read names n) ≡ true → 1 ≤ n → n < most →
    IsNameList names (name_list names n) n × CanStand (bare (name_list names n))
read_back names most n all some small =
    let both = and_parts (is_some_of (bits_in names (comma_parts (name_list names n))) n) (is_clean (name_list names n))
    (or_other n (is_read names n) some (all_at most n (λ n. (n == 0) || is_read names n) all small)) in
    (some_of (bits_in names (comma_parts (name_list names n))) n both.0, code_is_written (name_list names n) both.1)

-- ---- states
states_read : all_below 32 (λ n. (n == 0) || is_read state_names n) ≡ true
unfolding state_names bit_in
states_read = refl

pub states_listed : (n : ℕ) → 1 ≤ n → n < 32 → IsNameList state_names (name_list state_names n) n
states_listed n some small = (read_back state_names 32 n states_read some small).0

pub states_written : (n : ℕ) → 1 ≤ n → n < 32 → CanStand (bare (name_list state_names n))
states_written n some small = (read_back state_names 32 n states_read some small).1

-- ---- flags
flags_read : all_below 64 (λ n. (n == 0) || is_read flag_names n) ≡ true
unfolding flag_names bit_in
flags_read = refl

pub some_from : (n : ℕ) → (n == 0) ≡ false → 1 ≤ n
some_from n e = grind (arith, nat_tests)

flags_by : (n : ℕ) (b : Bool) → (n == 0) ≡ b → n < 64 →
    SpellsFlags (if b then codes "NONE" else name_list flag_names n) n × CanStand (bare (if b then codes "NONE" else name_list flag_names n))
flags_by n true e small = (inr (inl (refl, eqb-true n 0 e)), code_is_written (codes "NONE") refl)
flags_by n false e small = let read = read_back flag_names 64 n flags_read (some_from n e) small in (inr (inr read.0), read.1)

pub flags_spelled : (n : ℕ) → n < 64 → SpellsFlags (flags_text n) n
flags_spelled n small = (flags_by n (n == 0) refl small).0

pub flags_written : (n : ℕ) → n < 64 → CanStand (bare (flags_text n))
flags_written n small = (flags_by n (n == 0) refl small).1
