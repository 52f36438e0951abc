-- A number's text is read as that number, and nothing else is.
use Rattle.std.proofs.Common.{◌≡◌, ◌∙◌, ◌<◌, ◌^◌, ℕ, List, Option, Some, None, Result, Ok, Err, IfSome, IfNone, arith, sym, ap, subst, refl, decimal, lit<, lit≤, zero, suc}
use Rattle.std.specs.Result.{result_ok}
use Rattle.std.specs.Str.Parse.{AllDigits, ParsesUnsigned, digits_value, without_leading_plus}
use Rattle.std.proofs.lemmas.Fmt.{decimal_nonempty, first_decimal, parse-decimal, decimal-digits_value, decimal_digit, IsAscii-decimal}
use Rattle.std.proofs.lemmas.Str.Parse.{IsNumeralModel, numerals_by_value, tells_digits, without_leading_plus_none}
use Rattle.std.proofs.lemmas.Str.{IsUtf8-from_ascii}
use Rattle.std.specs.Prelude.{IsUtf8}
use Rattle.addr_text.specs.Numbers.{BeginsWell}

pub decimal_begins : (n : ℕ) → n < 2 ^ 32 → BeginsWell (decimal n)
decimal_begins zero small =
    subst BeginsWell (sym (decimal_digit 0 (lit< tt))) (record { some = lit< tt; digit = lit≤ tt; alone = λ _. refl })
decimal_begins (suc n) small =
    let first = first_decimal (suc n) (omega arith) (omega arith) in
    record { some = decimal_nonempty (suc n) (omega arith); digit = omega arith; alone = λ is. absurd (omega arith) }

pub decimal_utf8 : (n : ℕ) → n < 2 ^ 32 → IsUtf8 (decimal n)
decimal_utf8 n small = IsUtf8-from_ascii (decimal n) (IsAscii-decimal n (omega arith))

own : IsNumeralModel (AllDigits 10) (digits_value 10)
own = numerals_by_value (AllDigits 10) tells_digits

some_same : (m n : ℕ) → (let o : Option ℕ = Some m in o ≡ Some n) → m ≡ n
some_same m n is = cc

pub none_parsed : {E : Type 0} (n : ℕ) (text : List ℕ) (r : Result ℕ E) → n < 2 ^ 32 → text ≡ decimal n → ParsesUnsigned 32 10 text r → result_ok r ≡ Some n
none_parsed n text r small is parses = ap result_ok (parse-decimal 32 n text r (omega arith) (omega arith) is parses)

pub some_parsed : {E : Type 0} (n : ℕ) (text : List ℕ) (r : Result ℕ E) → BeginsWell text → ParsesUnsigned 32 10 text r → result_ok r ≡ Some n → text ≡ decimal n
some_parsed n text (Ok m) begins parses is =
    let bare : without_leading_plus text ≡ text = without_leading_plus_none text (λ plus. absurd (omega (arith, begins.digit))) in
    let digits : AllDigits 10 text = subst (AllDigits 10) bare parses.0.0.1 in
    let value : digits_value 10 text ≡ n = sym (ap (digits_value 10) bare) ∙ sym parses.1 ∙ some_same m n is in
    sym (decimal-digits_value own text digits begins.some begins.alone (omega (arith, parses.0.1, ap (digits_value 10) bare))) ∙ ap decimal value
some_parsed n text (Err e) begins parses is = cc

pub number_some : {E : Type 0} (bytes text : List ℕ) (o : Option ℕ) → BeginsWell bytes → text ≡ bytes
    → (r : Result ℕ E) → ParsesUnsigned 32 10 text r → o ≡ result_ok r → IfSome o (λ n. bytes ≡ decimal n)
number_some bytes text (Some n) begins same r parses is =
    sym same ∙ some_parsed n text r (subst BeginsWell (sym same) begins) parses (sym is)
number_some bytes text None begins same r parses is = tt

pub number_none : {E : Type 0} (bytes text : List ℕ) (o : Option ℕ) → text ≡ bytes
    → (r : Result ℕ E) → ParsesUnsigned 32 10 text r → o ≡ result_ok r → IfNone o ((n : ℕ) → n < 2 ^ 32 → bytes ≡ decimal n → ⊥)
number_none bytes text (Some n) same r parses is = tt
number_none bytes text None same r parses is = λ n small spelled. none_some n (is ∙ none_parsed n text r small (same ∙ spelled) parses)
  where
    none_some : (n : ℕ) → (let o : Option ℕ = None in o ≡ Some n) → ⊥
    none_some n is = cc
