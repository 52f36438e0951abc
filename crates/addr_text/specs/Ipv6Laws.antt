-- The laws of IPv6 texts.
use Rattle.std.proofs.Common.{◌≡◌, ◌∙◌, ◌-◌, ◌<◌, ◌≤◌, ◌^◌, ◌++◌, ℕ, Bool, true, false, List, [], ◌∷◌, arith, sym, ap, subst, refl, length, slice_index, zero, suc, lit<, lit≤, inl, inr, replicate, append_assoc, length-append}
use Rattle.std.proofs.lemmas.Int.Digits.{digits_value-lt}
use Rattle.std.proofs.Math.Nat.{pow-le-pow_right, pow-suc}
use Rattle.std.proofs.lemmas.Nat.{mul-add-lt}
use Rattle.std.specs.Char.{digit_value}
use Rattle.std.specs.Str.Parse.{AllDigits}
use Rattle.std.proofs.lemmas.List.Elements.{All-from_recursion, recursion_from_All}
use Rattle.std.specs.List.{AllByRecursion}
use Rattle.std.specs.Net.Addr.{segments_of}
use Rattle.std.specs.Net.Text.{hex_groups_text}
use Rattle.std.specs.Net.Grammar.{IsDotted, IsGroup, IsGroupsAfter, IsGroups, IsColonHex}
use Rattle.std.proofs.NetLemmas.Texts.{IsColonHex-hex_groups_text}
use Rattle.std.proofs.NetLemmas.Theorems.{IsIpv6Text_unique}
use Rattle.std.specs.declared.net.ipv6_addr.Ipv6Addr.{Ipv6Addr}
use Rattle.addr_text.specs.Digits.{number_of, digits_of}
use Rattle.addr_text.specs.Ipv4Laws.{dotted_plain, mark_in_digits}
use Rattle.std.proofs.lemmas.Bool.{cases_lt}
use Rattle.std.proofs.lemmas.Bool.Decides.{nat_tests}
use Rattle.addr_text.specs.Grammar.{IsAddressByte, IsPlain, IsIpv6}

eight_groups : (a b c d e f g h : ℕ) → a < 65536 → b < 65536 → c < 65536 → d < 65536 → e < 65536 → f < 65536 → g < 65536 → h < 65536 →
    (k : ℕ) → slice_index (a ∷ b ∷ c ∷ d ∷ e ∷ f ∷ g ∷ h ∷ []) k < 65536
eight_groups a b c d e f g h p q r s t u v w zero = p
eight_groups a b c d e f g h p q r s t u v w (suc zero) = q
eight_groups a b c d e f g h p q r s t u v w (suc (suc zero)) = r
eight_groups a b c d e f g h p q r s t u v w (suc (suc (suc zero))) = s
eight_groups a b c d e f g h p q r s t u v w (suc (suc (suc (suc zero)))) = t
eight_groups a b c d e f g h p q r s t u v w (suc (suc (suc (suc (suc zero))))) = u
eight_groups a b c d e f g h p q r s t u v w (suc (suc (suc (suc (suc (suc zero)))))) = v
eight_groups a b c d e f g h p q r s t u v w (suc (suc (suc (suc (suc (suc (suc zero))))))) = w
eight_groups a b c d e f g h p q r s t u v w (suc (suc (suc (suc (suc (suc (suc (suc k)))))))) = lit< tt

number_of_eight : (n : ℕ) → n < 2 ^ 128 → n ≡ number_of 65536 (digits_of 65536 8 n)
number_of_eight n small = omega arith

pub ipv6_round : (value : ℕ) → value < 2 ^ 128 → IsIpv6 (hex_groups_text (digits_of 65536 8 value)) value
ipv6_round value small = record {
  groups = digits_of 65536 8 value;
  spelled = IsColonHex-hex_groups_text (digits_of 65536 8 value) refl
      (eight_groups _ _ _ _ _ _ _ _ (omega arith) (omega arith) (omega arith) (omega arith) (omega arith) (omega arith) (omega arith) (omega arith));
  value_is = number_of_eight value small;
}

pub ipv6_one : (text : List ℕ) (x y : ℕ) → IsIpv6 text x → IsIpv6 text y → x ≡ y
ipv6_one text x y p q =
    let a : Ipv6Addr = record { segments = p.groups } in
    let b : Ipv6Addr = record { segments = q.groups } in
    p.value_is ∙ ap (λ (z : Ipv6Addr). number_of 65536 z.segments) (IsIpv6Text_unique text a b p.spelled q.spelled) ∙ sym q.value_is

-- each group is below 65536
abbrev AllLow : List ℕ → Type 0
AllLow groups = AllByRecursion (λ s. s < 65536) groups

group_fits : (text : List ℕ) (s : ℕ) → IsGroup text s → s < 65536
group_fits text s h =
    let below = digits_value-lt 16 text h.0.0.1 in
    let most : 16 ^ length text ≤ 16 ^ 4 = pow-le-pow_right (lit≤ tt) h.1 in
    omega (arith, h.0.1)

tail_fits : (octets : List ℕ) (text : List ℕ) → IsDotted text octets → AllLow (segments_of octets)
tail_fits octets text d = subst (λ o. AllLow (segments_of o)) (sym d.value)
    ((let p = d.fit.0 in let q = d.fit.1 in omega arith), ((let p = d.fit.2 in let q = d.fit.3 in omega arith), tt))

groups_fit : (ipv4 : Bool) (lead text groups : List ℕ) → IsGroupsAfter ipv4 lead text groups → AllLow groups
groups_fit ipv4 lead text [] h = tt
groups_fit ipv4 lead text (s ∷ groups) (inl (group, rest, split, is, more)) = (group_fits group s is, groups_fit ipv4 (58 ∷ []) rest groups more)
groups_fit ipv4 lead text (s ∷ groups) (inr (last, octets, may, split, dotted, is)) = subst AllLow (sym is) (tail_fits octets last dotted)

all_append : (a b : List ℕ) → AllLow a → AllLow b → AllLow (a ++ b)
all_append [] b p q = q
all_append (x ∷ a) b p q = (p.0, all_append a b p.1 q)

all_zero : (k : ℕ) → AllLow (replicate k 0)
all_zero zero = tt
all_zero (suc k) = (lit< tt, all_zero k)

length_replicate : (k : ℕ) → length {A = ℕ} (replicate k 0) ≡ k
length_replicate zero = refl
length_replicate (suc k) = ap suc (length_replicate k)

-- there are eight groups below 65536
pub record IsEight (groups : List ℕ) : Type 0 where
  pub count : length groups ≡ 8
  pub low : AllLow groups

pub eight_read : (text groups : List ℕ) → IsColonHex text groups → IsEight groups
eight_read text groups (inl h) = record { count = h.1; low = groups_fit true [] text groups h.0 }
eight_read text groups (inr e) =
    let gap = 8 - length e.head - length e.tail in
    let head = groups_fit false [] e.head_text e.head e.head_groups in
    let tail = groups_fit true [] e.tail_text e.tail e.tail_groups in
    record {
      count = omega (arith, ap length e.value, length-append (e.head ++ replicate gap 0) e.tail, length-append e.head (replicate gap 0), length_replicate gap, e.room);
      low = subst AllLow (sym e.value) (all_append _ _ (all_append _ _ head (all_zero gap)) tail);
    }

number_below : (groups : List ℕ) → AllLow groups → number_of 65536 groups < 65536 ^ length groups
number_below [] p = lit< tt
number_below (s ∷ groups) p = rw pow-suc (mul-add-lt s (65536 ^ length groups) (number_of 65536 groups) 65536 p.0 (number_below groups p.1))

pub ipv6_fits : (text : List ℕ) (value : ℕ) → IsIpv6 text value → value < 2 ^ 128
ipv6_fits text value p =
    let eight = eight_read text p.groups p.spelled in
    let below : number_of 65536 p.groups < 65536 ^ 8 = subst (λ k. number_of 65536 p.groups < 65536 ^ k) eight.count (number_below p.groups eight.low) in
    rw p.value_is below

-- what follows the first of two groups or more has a colon
colon_in_groups : (groups text : List ℕ) → 0 < length groups → IsGroupsAfter true (58 ∷ []) text groups → (b : List ℕ) × (text ≡ 58 ∷ b)
colon_in_groups [] text some h = absurd (omega arith)
colon_in_groups (s ∷ groups) text some (inl (group, rest, split, is, more)) = (group ++ rest, split)
colon_in_groups (s ∷ groups) text some (inr (last, octets, may, split, dotted, is)) = (last, split)

-- a text of eight groups has a colon
colon_in_eight : (groups text : List ℕ) → length groups ≡ 8 → IsGroups true text groups → (a b : List ℕ) × (text ≡ a ++ (58 ∷ b))
colon_in_eight [] text eight h = absurd (omega arith)
colon_in_eight (s ∷ groups) text eight (inl (group, rest, split, is, more)) =
    let (b, after) = colon_in_groups groups rest (omega arith) more in
    (group, b, split ∙ ap (λ r. group ++ r) after)
colon_in_eight (s ∷ groups) text eight (inr (last, octets, may, split, dotted, is)) =
    let two : length (s ∷ groups) ≡ 2 = ap length is ∙ ap (λ o. length (segments_of o)) dotted.value in
    absurd (omega arith)

colon : (text groups : List ℕ) → IsColonHex text groups → (a b : List ℕ) × (text ≡ a ++ (58 ∷ b))
colon text groups (inl h) = colon_in_eight groups text h.1 h.0
colon text groups (inr e) = (e.head_text, 58 ∷ e.tail_text, e.spelled ∙ append_assoc e.head_text (58 ∷ 58 ∷ []) e.tail_text)

pub ipv6_not_number : (text : List ℕ) (value : ℕ) → AllDigits 10 text → IsIpv6 text value → ⊥
ipv6_not_number text value digits p =
    let (a, b, split) = colon text p.groups p.spelled in
    mark_in_digits 58 a b (lit≤ tt) (subst (AllDigits 10) split digits)

plain_colon : IsAddressByte 58
plain_colon = inr (inr (inr (inr refl)))

abbrev Plain : List ℕ → Type 0
Plain text = AllByRecursion IsAddressByte text

plain_append : (a b : List ℕ) → Plain a → Plain b → Plain (a ++ b)
plain_append [] b p q = q
plain_append (x ∷ a) b p q = (p.0, plain_append a b p.1 q)

plain_digit : (b : ℕ) → digit_value b < 16 → IsAddressByte b
plain_digit b low =
    elim (cases_lt b 58) [
      | inl digit ↦ inl (grind (arith, nat_tests), omega arith)
      | inr letter ↦ elim (cases_lt b 71) [
        | inl upper ↦ inr (inr (inl (grind (arith, nat_tests), omega arith)))
        | inr lower ↦ inr (inl (grind (arith, nat_tests), grind (arith, nat_tests)))
      ]
    ]

plain_group : (text : List ℕ) → AllDigits 16 text → Plain text
plain_group [] p = tt
plain_group (b ∷ text) p = (plain_digit b p.0, plain_group text p.1)

plain_dotted : (text octets : List ℕ) → IsDotted text octets → Plain text
plain_dotted text octets d = recursion_from_All IsAddressByte text (dotted_plain text octets d)

plain_groups : (ipv4 : Bool) (lead text groups : List ℕ) → Plain lead → IsGroupsAfter ipv4 lead text groups → Plain text
plain_groups ipv4 lead text [] p h = subst Plain (sym h) tt
plain_groups ipv4 lead text (s ∷ groups) p (inl (group, rest, split, is, more)) =
    subst Plain (sym split) (plain_append _ _ (plain_append _ _ p (plain_group group is.0.0.1)) (plain_groups ipv4 (58 ∷ []) rest groups (plain_colon, tt) more))
plain_groups ipv4 lead text (s ∷ groups) p (inr (last, octets, may, split, dotted, is)) =
    subst Plain (sym split) (plain_append _ _ p (plain_dotted last octets dotted))

plain_text : (text groups : List ℕ) → IsColonHex text groups → Plain text
plain_text text groups (inl h) = plain_groups true [] text groups tt h.0
plain_text text groups (inr e) =
    subst Plain (sym e.spelled) (plain_append _ _ (plain_append _ _ (plain_groups false [] e.head_text e.head tt e.head_groups) (plain_colon, (plain_colon, tt)))
    (plain_groups true [] e.tail_text e.tail tt e.tail_groups))

pub ipv6_plain : (text : List ℕ) (value : ℕ) → IsIpv6 text value → IsPlain text
ipv6_plain text value p =
    let (a, b, split) = colon text p.groups p.spelled in
    record {
      some = omega (arith, ap length split, length-append a (58 ∷ b));
      each = All-from_recursion IsAddressByte text (plain_text text p.groups p.spelled);
    }
