-- The laws of IPv4 texts.
use Rattle.std.proofs.Common.{◌≡◌, ◌∙◌, ◌<◌, ◌^◌, ◌++◌, ℕ, List, [], ◌∷◌, All, arith, sym, ap, subst, refl, length, slice_index, zero, suc, lit<, lit≤, inl, inr, decimal, append_assoc, length-append, ◌≤◌}
use Rattle.std.specs.Char.{digit_value}
use Rattle.std.specs.Str.Parse.{AllDigits}
use Rattle.std.specs.Net.Text.{ipv4_text, dotted_text}
use Rattle.std.specs.Net.Grammar.{IsDotted}
use Rattle.std.proofs.NetLemmas.Texts.{IsDotted-ipv4_text}
use Rattle.std.proofs.NetLemmas.Theorems.{IsIpv4Text_unique}
use Rattle.std.proofs.NetLemmas.Alphabet.{IsDigitOrDot, All-ipv4_text}
use Rattle.std.specs.declared.net.ipv4_addr.Ipv4Addr.{Ipv4Addr}
use Rattle.addr_text.specs.Digits.{number_of, digits_of}
use Rattle.addr_text.specs.Grammar.{IsAddressByte, IsPlain, IsIpv4}

pub four_bytes : (a b c d : ℕ) → a < 256 → b < 256 → c < 256 → d < 256 → (k : ℕ) → slice_index (a ∷ b ∷ c ∷ d ∷ []) k < 256
four_bytes a b c d p q r s zero = p
four_bytes a b c d p q r s (suc zero) = q
four_bytes a b c d p q r s (suc (suc zero)) = r
four_bytes a b c d p q r s (suc (suc (suc zero))) = s
four_bytes a b c d p q r s (suc (suc (suc (suc k)))) = lit< tt

number_of_four : (n : ℕ) → n < 2 ^ 32 → n ≡ number_of 256 (digits_of 256 4 n)
number_of_four n small = omega arith

pub ipv4_round : (value : ℕ) → value < 2 ^ 32 → IsIpv4 (ipv4_text (digits_of 256 4 value)) value
ipv4_round value small = record {
  octets = digits_of 256 4 value;
  spelled = IsDotted-ipv4_text (digits_of 256 4 value) refl (four_bytes _ _ _ _ (omega arith) (omega arith) (omega arith) (omega arith));
  value_is = number_of_four value small;
}

pub ipv4_one : (text : List ℕ) (x y : ℕ) → IsIpv4 text x → IsIpv4 text y → x ≡ y
ipv4_one text x y p q =
    let a : Ipv4Addr = record { octets = p.octets } in
    let b : Ipv4Addr = record { octets = q.octets } in
    p.value_is ∙ ap (λ (z : Ipv4Addr). number_of 256 z.octets) (IsIpv4Text_unique text a b p.spelled q.spelled) ∙ sym q.value_is

pub ipv4_fits : (text : List ℕ) (value : ℕ) → IsIpv4 text value → value < 2 ^ 32
ipv4_fits text value p = let s = p.spelled in rw (p.value_is, s.value) (omega (arith, s.fit.0, s.fit.1, s.fit.2, s.fit.3))

address_byte : (b : ℕ) → IsDigitOrDot b → IsAddressByte b
address_byte b (inl digit) = inl digit
address_byte b (inr dot) = inr (inr (inr (inl dot)))

octet_fits : {text octets : List ℕ} → IsDotted text octets → (k : ℕ) → slice_index octets k < 2 ^ 8
octet_fits {text} {octets} s k = subst (λ (o : List ℕ). slice_index o k < 256) (sym s.value)
    (four_bytes s.a s.b s.c s.d s.fit.0 s.fit.1 s.fit.2 s.fit.3 k)

dotted : {text octets : List ℕ} → IsDotted text octets → text ≡ ipv4_text octets
dotted s = s.spelled ∙ ap ipv4_text (sym s.value)

-- no dot or colon is a decimal digit
pub mark_in_digits : (mark : ℕ) (a b : List ℕ) → 10 ≤ digit_value mark → AllDigits 10 (a ++ (mark ∷ b)) → ⊥
mark_in_digits mark [] b high p = let wrong = p.0 in absurd (omega arith)
mark_in_digits mark (x ∷ a) b high p = mark_in_digits mark a b high p.1

dotted_text_split : (a b c d : ℕ) → dotted_text a b c d ≡ decimal a ++ (46 ∷ (decimal b ++ (46 ∷ (decimal c ++ (46 ∷ decimal d)))))
dotted_text_split a b c d = simp append_assoc

pub dotted_plain : (text octets : List ℕ) → IsDotted text octets → All IsAddressByte text
dotted_plain text octets s =
    let all = All-ipv4_text octets (octet_fits s) in
    let each : All IsAddressByte (ipv4_text octets) = λ k d h. address_byte _ (all k d h) in
    subst (All IsAddressByte) (sym (dotted s)) each

pub ipv4_plain : (text : List ℕ) (value : ℕ) → IsIpv4 text value → IsPlain text
ipv4_plain text value p =
    let s = p.spelled in
    let rest = decimal s.b ++ (46 ∷ (decimal s.c ++ (46 ∷ decimal s.d))) in
    let split : text ≡ decimal s.a ++ (46 ∷ rest) = s.spelled ∙ dotted_text_split s.a s.b s.c s.d in
    record {
      some = omega (arith, ap length split, length-append (decimal s.a) (46 ∷ rest));
      each = dotted_plain text p.octets s;
    }

pub ipv4_not_number : (text : List ℕ) (value : ℕ) → AllDigits 10 text → IsIpv4 text value → ⊥
ipv4_not_number text value digits p =
    let s = p.spelled in
    mark_in_digits 46 (decimal s.a) _ (lit≤ tt) (subst (AllDigits 10) (s.spelled ∙ dotted_text_split s.a s.b s.c s.d) digits)
