-- A word of a protocol, a state or flags has one number, which is small.
use Rattle.std.proofs.Common.{◌≡◌, ◌∙◌, ◌≤◌, ◌<◌, ◌^◌, ℕ, List, [], ◌∷◌, Bool, true, false, Option, None, Some, refl, sym, ap, subst, arith, codes, inl, inr, decimal, bit_or}
use Rattle.std.specs.Prelude.{if◌then◌else◌, nat_le, nat_lt}
use Rattle.std.specs.Char.{digit_value}
use Rattle.std.specs.List.{list_all}
use Rattle.std.specs.Str.{bytes_eq}
use Rattle.std.specs.Str.Parse.{AllDigits}
use Rattle.std.proofs.Math.Pow.{pow_mono}
use Rattle.std.proofs.lemmas.Bool.Decides.{nat_tests}
use Rattle.std.proofs.lemmas.Fmt.{decimal_injective, decimal_is_IsNumeral}
use Rattle.std.proofs.lemmas.Nat.{or_lt}
use Rattle.std.proofs.lemmas.Slice.Eq.{bytes_eq-Decides}
use Rattle.basics.specs.Parts.{comma_parts}
use Rattle.primitives.specs.Tables.{IsNameList, Named, bit_in, bit_of, bits_in, both_bits, flag_names, number_in, proto_names, stands_for, state_names}
use Rattle.primitives.specs.Words.{SpellsFlags, SpellsProto}

same_word : (word : Named) (text : List ℕ) (n : ℕ) → word.name ≡ text → word.number ≡ n → word ≡ stands_for text n
same_word word text n e f = λ i. record { name = e i; number = f i }

-- what passes for each word, passes for the text and its number
pub number_passes : (p : Named → Bool) (words : List Named) (text : List ℕ) (n : ℕ) → list_all p words ≡ true → number_in words text ≡ Some n → p (stands_for text n) ≡ true
number_passes p [] text n h is = cc
number_passes p (word ∷ words) text n h is = by_cases (bytes_eq word.name text) refl (λ k. number_passes p words text n (grind (arith, h)) k) is
  where
    by_cases : (c : Bool) → bytes_eq word.name text ≡ c → (number_in words text ≡ Some n → p (stands_for text n) ≡ true) →
        (if c then Some word.number else number_in words text) ≡ Some n → p (stands_for text n) ≡ true
    by_cases true e rest k =
        let passes : p word ≡ true = grind (arith, h) in
        let number : word.number ≡ n = cc in
        ap p (sym (same_word word text n ((bytes_eq-Decides word.name text).0 e) number)) ∙ passes
    by_cases false e rest k = rest k

-- ---- states
pub state_small : (text : List ℕ) (n : ℕ) → number_in state_names text ≡ Some n → n < 5
unfolding state_names
state_small text n is = let h = number_passes (λ (word : Named). nat_lt word.number 5) state_names text n refl is in grind (arith, nat_tests, h)

-- ---- flags
flag_place : (text : List ℕ) (n : ℕ) → number_in flag_names text ≡ Some n → n < 6
unfolding flag_names
flag_place text n is = let h = number_passes (λ (word : Named). nat_lt word.number 6) flag_names text n refl is in grind (arith, nat_tests, h)

small_bit : (n : ℕ) → n < 6 → 2 ^ n < 64
small_bit n small = let most : 2 ^ n ≤ 2 ^ 5 = pow_mono {i = n} {j = 5} (omega arith) in omega (arith, most)

bit_small : (place : Option ℕ) (n : ℕ) → ((k : ℕ) → place ≡ Some k → k < 6) → bit_of place ≡ Some n → n < 64
bit_small None n small is = let f : None ≡ Some n = is in absurd (cc f)
bit_small (Some k) n small is = let e : 2 ^ k ≡ n = cc in subst (λ (x : ℕ). x < 64) e (small_bit k (small k refl))

flag_small : (text : List ℕ) (n : ℕ) → bit_in flag_names text ≡ Some n → n < 64
unfolding bit_in
flag_small text n is = bit_small (number_in flag_names text) n (flag_place text) is

both_small : (n : ℕ) (a b : Option ℕ) → ((k : ℕ) → a ≡ Some k → k < 64) → ((k : ℕ) → b ≡ Some k → k < 64) → both_bits a b ≡ Some n → n < 64
both_small n None b small more is = let f : None ≡ Some n = is in absurd (cc)
both_small n (Some a) None small more is = let f : None ≡ Some n = is in absurd (cc)
both_small n (Some a) (Some b) small more is =
    let e : Some (bit_or a b) ≡ Some n = is in
    let same : bit_or a b ≡ n = cc in
    let below : bit_or a b < 2 ^ 6 = or_lt 6 a b (small a refl) (more b refl) in
    subst (λ (k : ℕ). k < 64) same below

flags_small : (parts : List (List ℕ)) (n : ℕ) → bits_in flag_names parts ≡ Some n → n < 64
flags_small [] n is = let h : Some 0 ≡ Some n = is in let e : 0 ≡ n = cc in omega (arith, e)
flags_small (part ∷ parts) n is = both_small n (bit_in flag_names part) (bits_in flag_names parts) (flag_small part) (flags_small parts) is

pub spelled_small : (text : List ℕ) (n : ℕ) → SpellsFlags text n → n < 64
spelled_small text n (inl is) = let e = is.1 in omega (arith, e)
spelled_small text n (inr (inl is)) = let e = is.1 in omega (arith, e)
spelled_small text n (inr (inr list)) = flags_small (comma_parts text) n list

-- a text that names all flags or none is no list of flags
pub all_unknown : bits_in flag_names (comma_parts (codes "ALL")) ≡ None
unfolding flag_names bit_in
all_unknown = refl

pub none_unknown : bits_in flag_names (comma_parts (codes "NONE")) ≡ None
unfolding flag_names bit_in
none_unknown = refl

no_list : (text word : List ℕ) (n : ℕ) → text ≡ word → bits_in flag_names (comma_parts word) ≡ None → IsNameList flag_names text n → ⊥
no_list text word n is none list = let h : None ≡ Some n = sym none ∙ ap (λ t. bits_in flag_names (comma_parts t)) (sym is) ∙ list in cc

-- a text spells one number of flags
pub flags_once : (text : List ℕ) (m n : ℕ) → SpellsFlags text m → SpellsFlags text n → m ≡ n
flags_once text m n (inl p) (inl q) = p.1 ∙ sym q.1
flags_once text m n (inl p) (inr (inl q)) = let f : codes "ALL" ≡ codes "NONE" = sym p.0 ∙ q.0 in cc
flags_once text m n (inl p) (inr (inr q)) = absurd (no_list text (codes "ALL") n p.0 all_unknown q)
flags_once text m n (inr (inl p)) (inl q) = let f : codes "NONE" ≡ codes "ALL" = sym p.0 ∙ q.0 in cc
flags_once text m n (inr (inl p)) (inr (inl q)) = p.1 ∙ sym q.1
flags_once text m n (inr (inl p)) (inr (inr q)) = absurd (no_list text (codes "NONE") n p.0 none_unknown q)
flags_once text m n (inr (inr p)) (inl q) = absurd (no_list text (codes "ALL") m q.0 all_unknown p)
flags_once text m n (inr (inr p)) (inr (inl q)) = absurd (no_list text (codes "NONE") m q.0 none_unknown p)
flags_once text m n (inr (inr p)) (inr (inr q)) = let h : Some m ≡ Some n = sym p ∙ q in cc

-- ---- protocols
-- the text begins with a byte that is no decimal digit
abbrev begins_other : List ℕ → Bool
begins_other [] = false
begins_other (b ∷ bs) = nat_le 10 (digit_value b)

name_begins : (text : List ℕ) (n : ℕ) → number_in proto_names text ≡ Some n → begins_other text ≡ true
unfolding proto_names
name_begins text n is = number_passes (λ (word : Named). begins_other word.name) proto_names text n refl is

no_digits : (text : List ℕ) → begins_other text ≡ true → AllDigits 10 text → ⊥
no_digits [] h digits = let f : false ≡ true = h in cc
no_digits (b ∷ bs) h digits = let first = digits.0 in grind (arith, nat_tests, h, first)

name_no_number : (text : List ℕ) (n m : ℕ) → number_in proto_names text ≡ Some n → m ≤ 255 → text ≡ decimal m → ⊥
name_no_number text n m named small is =
    no_digits text (name_begins text n named) (subst (AllDigits 10) (sym is) (decimal_is_IsNumeral m (omega (arith, small))).0.1)

-- a text spells one protocol
pub proto_once : (text : List ℕ) (n m : ℕ) → SpellsProto text n → SpellsProto text m → n ≡ m
proto_once text n m (inl p) (inl q) = let h : Some n ≡ Some m = sym p ∙ q in cc
proto_once text n m (inl p) (inr q) = absurd (name_no_number text n m p q.0 q.1)
proto_once text n m (inr p) (inl q) = absurd (name_no_number text m n q p.0 p.1)
proto_once text n m (inr p) (inr q) = let a = p.0 in let b = q.0 in decimal_injective n m (omega (arith, a)) (omega (arith, b)) (sym p.1 ∙ q.1)

-- a protocol that has a name isn't 0
pub named_positive : (text : List ℕ) (n : ℕ) → number_in proto_names text ≡ Some n → 1 ≤ n
unfolding proto_names
named_positive text n is = let passes = number_passes (λ (word : Named). nat_lt 0 word.number) proto_names text n refl is in grind (arith, nat_tests, passes)
