-- Words that stand in a line as they are meant.
use Rattle.std.proofs.Common.{◌≡◌, ◌≢◌, ◌++◌, ◌∷◌, ◌^◌, ◌<◌, ◌&&◌, [], ℕ, Bool, true, false, not, inl, inr, nat_lt, length, refl, arith, codes, decimal, length-append}
use Rattle.std.specs.List.{AllByRecursion, list_all}
use Rattle.std.specs.Char.{digit_value}
use Rattle.std.specs.Str.Parse.{AllDigits}
use Rattle.std.proofs.lemmas.Bool.Decides.{nat_tests}
use Rattle.std.proofs.lemmas.Fmt.{decimal_is_IsNumeral}
use Rattle.std.proofs.lemmas.List.Elements.{recursion_from_All}
use Rattle.std.proofs.lemmas.Bool.{and_parts, ltb-true}
use Rattle.addr_text.specs.Grammar.{IsAddressByte, IsPlain}
use Rattle.dump_token.specs.Words.{BeginsPlain, HoldsNoBlank, is_blank}
use Rattle.name_set.specs.declared.pattern.Pattern.{Pattern}
use Rattle.dump_grammar.specs.Lines.{IsLine, Text, Word, bare}
use Rattle.dump_grammar.specs.Printable.{IsPrintable}
use Rattle.primitives.specs.Bytes.{is_plain_byte}
use Rattle.dump_print.specs.Names.{begins_plainly, is_bare, name_word, pattern_name}
use Rattle.dump_print.specs.Written.{IsWritten}
use Rattle.basics.proofs.Lists.{each_append}

-- a word that stands in a line as it is meant, and has no line feed
abbrev pub CanStand : Word → Type 0
CanStand word = IsWritten word × IsLine word.text

-- each byte is ltb-true the quote, which is ltb-true the blanks
abbrev pub IsClean : Text → Type 0
IsClean text = AllByRecursion (λ b. 34 < b) text

-- the same as a test, and that there is a byte
abbrev pub is_clean : Text → Bool
is_clean text = nat_lt 0 (length text) && list_all (λ b. nat_lt 34 b) text

pub clean_from : (text : Text) → list_all (λ b. nat_lt 34 b) text ≡ true → IsClean text
clean_from [] e = tt
clean_from (b ∷ text) e = let both = and_parts (nat_lt 34 b) (list_all (λ b. nat_lt 34 b) text) e in (ltb-true 34 b both.0, clean_from text both.1)

no_blank : (b : ℕ) → 34 < b → is_blank b ≡ false
no_blank b l = grind (arith, nat_tests)

no_quote : (b : ℕ) → 34 < b → b ≢ 34
no_quote b l e = omega arith

clean_blank : (text : Text) → IsClean text → HoldsNoBlank text
clean_blank [] p = tt
clean_blank (b ∷ text) p = (no_blank b p.0, clean_blank text p.1)

clean_begins : (text : Text) → 0 < length text → IsClean text → BeginsPlain text
clean_begins [] l p = absurd (omega arith)
clean_begins (b ∷ text) l p = (no_quote b p.0, no_blank b p.0)

clean_line : (text : Text) → IsClean text → IsLine text
clean_line [] p = tt
clean_line (b ∷ text) p = (omega (arith, p.0), clean_line text p.1)

pub clean_is_written : (text : Text) → 0 < length text → IsClean text → CanStand (bare text)
clean_is_written text some p = (inr (refl, clean_begins text some p, clean_blank text p), clean_line text p)

pub code_is_written : (text : Text) → is_clean text ≡ true → CanStand (bare text)
code_is_written text e =
    let both = and_parts (nat_lt 0 (length text)) (list_all (λ b. nat_lt 34 b) text) e in
    clean_is_written text (ltb-true 0 (length text) both.0) (clean_from text both.1)

pub mark_is_written : CanStand (bare (codes "!"))
mark_is_written = (inr (refl, (λ (e : 33 ≡ 34). omega arith, refl), (refl, tt)), (omega arith, tt))

pub module_mark_is_written : CanStand (bare (codes "-m"))
module_mark_is_written = code_is_written (codes "-m") refl

clean_digit : (b : ℕ) → digit_value b < 10 → 34 < b
clean_digit b l = grind (arith, nat_tests)

clean_digits : (text : Text) → AllDigits 10 text → IsClean text
clean_digits [] p = tt
clean_digits (b ∷ text) p = (clean_digit b p.0, clean_digits text p.1)

pub clean_decimal : (n : ℕ) → n < 2 ^ 64 → IsClean (decimal n)
clean_decimal n small = clean_digits (decimal n) (decimal_is_IsNumeral n small).0.1

pub some_decimal : (n : ℕ) → n < 2 ^ 64 → 0 < length (decimal n)
some_decimal n small = (decimal_is_IsNumeral n small).0.0

clean_byte : (b : ℕ) → IsAddressByte b → 34 < b
clean_byte b (inl h) = omega (arith, h)
clean_byte b (inr (inl h)) = omega (arith, h)
clean_byte b (inr (inr (inl h))) = omega (arith, h)
clean_byte b (inr (inr (inr (inl h)))) = omega (arith, h)
clean_byte b (inr (inr (inr (inr h)))) = omega (arith, h)

clean_bytes : (text : Text) → AllByRecursion IsAddressByte text → IsClean text
clean_bytes [] p = tt
clean_bytes (b ∷ text) p = (clean_byte b p.0, clean_bytes text p.1)

pub clean_address : (text : Text) → IsPlain text → IsClean text
clean_address text plain = clean_bytes text (recursion_from_All IsAddressByte text plain.each)

-- there is a byte, if there is one in the first text
pub some_joined : (a b : Text) → 0 < length a → 0 < length (a ++ b)
some_joined a b some = omega (arith, length-append a b, some)

clean_plain : (b : ℕ) → is_plain_byte b ≡ true → 34 < b
clean_plain b e = grind (arith, nat_tests)

clean_all : (text : Text) → list_all is_plain_byte text ≡ true → IsClean text
clean_all [] e = tt
clean_all (b ∷ text) e = let both = and_parts (is_plain_byte b) (list_all is_plain_byte text) e in (clean_plain b both.0, clean_all text both.1)

some_begun : (text : Text) → begins_plainly text ≡ true → 0 < length text
some_begun [] e = let wrong : false ≡ true = e in cc
some_begun (b ∷ text) e = omega arith

pattern_line : (pattern : Pattern) → IsPrintable pattern → IsLine (pattern_name pattern)
pattern_line (Pattern.Exact name) is = is.3
pattern_line (Pattern.Prefix front) is = each_append (λ b. b ≢ 10) front (codes "+") is.1 (omega arith, tt)

name_written : (b : Bool) (text : Text) → is_bare text ≡ b → IsLine text → CanStand (record { text = text; quoted = not b })
name_written false text e line = (inl refl, line)
name_written true text e line =
    let both = and_parts (begins_plainly text) (list_all is_plain_byte text) e in
    clean_is_written text (some_begun text both.0) (clean_all text both.1)

pub name_is_written : (pattern : Pattern) → IsPrintable pattern → CanStand (name_word pattern)
name_is_written pattern is = name_written (is_bare (pattern_name pattern)) (pattern_name pattern) refl (pattern_line pattern is)
