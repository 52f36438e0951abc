-- What a helper chain gives back: printable patterns, and numbers that a line can say.
use Rattle.std.proofs.Common.{◌≡◌, ◌∙◌, ◌+◌, ◌-◌, ◌<◌, ◌≤◌, ℕ, zero, suc, List, [], ◌∷◌, Bool, true, false, ap, arith, inl, inr}
use Rattle.std.specs.Prelude.{if◌then◌else◌, nat_le}
use Rattle.std.specs.List.{AllByRecursion}
use Rattle.std.proofs.lemmas.Bool.{and_from, le-leb, or_left, or_right}
use Rattle.interval_set.specs.declared.set.Range.{Range}
use Rattle.interval_set.specs.Numbers.{has, is_within}
use Rattle.interval_set.specs.Spelling.{set_not}
use Rattle.name_set.specs.declared.set.NameSet.{NameSet}
use Rattle.dump_grammar.specs.Printable.{IsPrintable}
use Rattle.dump_print.specs.Helpers.{returned_numbers, returned_patterns}
use Rattle.dump_print.specs.Names.{is_plain_names}
use Rattle.dump_print.specs.Numbers.{are_plain_numbers, lacking, numbers_from, numbers_of, said_of}
use Rattle.printed_text.specs.Names.{ArePrintableNames}
use Rattle.basics.proofs.Lists.{each_weaker}
use Rattle.printed_text.proofs.ListLemmas.{flat_since}
use Rattle.printed_text.proofs.NumberLemmas.{IsNumberBut, lacked_number}
use Rattle.printed_text.proofs.NumberSets.{IsSayableSet, single_only}

unless : {X : Type 0} (P : X → Type 0) (b : Bool) (xs : List X) → AllByRecursion P xs → AllByRecursion P (if b then [] else xs)
unless P true xs are = tt
unless P false xs are = are

pub returned_printable : (names : NameSet) → ArePrintableNames names → AllByRecursion IsPrintable (returned_patterns names)
returned_printable names are = unless IsPrintable (is_plain_names names) names.excluded are.excluded

all_from : (P : ℕ → Type 0) (first count : ℕ) → ((n : ℕ) → first ≤ n → n < first + count → P n) → AllByRecursion P (numbers_from first count)
all_from P first zero f = tt
all_from P first (suc count) f = (f first (omega arith) (omega arith), all_from P (first + 1) count (λ n low high. f n (omega arith) (omega arith)))

within_has : (r : Range) (rs : List Range) (n : ℕ) → r.lo ≤ n → n ≤ r.hi → has (r ∷ rs) n ≡ true
within_has r rs n low high = or_left (is_within r n) (has rs n) (and_from (nat_le r.lo n) (nat_le n r.hi) (le-leb r.lo n low) (le-leb n r.hi high))

-- each number of each range is in the set
each_has : (rs : List Range) → AllByRecursion (λ (r : Range). (n : ℕ) → r.lo ≤ n → n ≤ r.hi → has rs n ≡ true) rs
each_has [] = tt
each_has (r ∷ rs) = (
  within_has r rs,
  each_weaker (λ (s : Range). (n : ℕ) → s.lo ≤ n → n ≤ s.hi → has rs n ≡ true) (λ (s : Range). (n : ℕ) → s.lo ≤ n → n ≤ s.hi → has (r ∷ rs) n ≡ true)
      (λ s f n low high. or_right (is_within r n) (has rs n) (f n low high)) rs (each_has rs),
)

numbers_has : (rs : List Range) → AllByRecursion (λ n. has rs n ≡ true) (numbers_of rs)
numbers_has rs =
    flat_since (λ (r : Range). (n : ℕ) → r.lo ≤ n → n ≤ r.hi → has rs n ≡ true) (λ n. has rs n ≡ true) (λ (r : Range). numbers_from r.lo (r.hi + 1 - r.lo))
    (λ r f. all_from (λ n. has rs n ≡ true) r.lo (r.hi + 1 - r.lo) (λ n low high. f n low (omega arith))) rs (each_has rs)

lacking_numbers : (unsaid : ℕ) (rs : List Range) → has rs unsaid ≡ true → AllByRecursion (IsNumberBut unsaid) (lacking rs)
lacking_numbers unsaid rs holds =
    each_weaker (λ n. has (set_not 8 rs) n ≡ true) (IsNumberBut unsaid) (λ n lacked. lacked_number unsaid rs n holds lacked) (lacking rs) (numbers_has (set_not 8 rs))

none_if_plain : (unsaid : ℕ) (rs : List Range) (b : Bool) → b ≡ true → AllByRecursion (IsNumberBut unsaid) (if b then [] else lacking rs)
none_if_plain unsaid rs true e = tt
none_if_plain unsaid rs false e = let wrong : false ≡ true = e in cc

pub returned_sayable : (unsaid : ℕ) (rs : List Range) → IsSayableSet unsaid rs → AllByRecursion (IsNumberBut unsaid) (returned_numbers (said_of unsaid rs) rs)
returned_sayable unsaid rs (inl (n, number, is)) =
    none_if_plain unsaid rs (are_plain_numbers (said_of unsaid rs)) (ap are_plain_numbers (ap (said_of unsaid) is ∙ single_only unsaid n number.1))
returned_sayable unsaid rs (inr holds) = unless (IsNumberBut unsaid) (are_plain_numbers (said_of unsaid rs)) (lacking rs) (lacking_numbers unsaid rs holds)
