-- A text is parted at a byte in one way, and which bytes a text lacks.
use Rattle.std.proofs.Common.{◌≡◌, ◌≢◌, ◌∙◌, ◌==◌, ◌<◌, ◌≤◌, ◌^◌, ◌++◌, ◌∷◌, [], ℕ, List, true, false, not, All, arith, ap, refl, sym, subst, decimal, slice_index_or}
use Rattle.std.specs.Char.{digit_value}
use Rattle.std.specs.List.{AllByRecursion, list_all}
use Rattle.std.specs.Str.Parse.{AllDigits}
use Rattle.std.proofs.lemmas.Bool.Decides.{nat_tests}
use Rattle.std.proofs.lemmas.Fmt.{decimal_is_IsNumeral}
use Rattle.std.proofs.lemmas.List.Elements.{All-from_recursion, recursion_from_All}
use Rattle.std.proofs.lemmas.List.Splits.{slice_split_at, slice_split_none}
use Rattle.basics.specs.Parts.{Lacks, comma_parts}

one_parting_by : (c : ℕ) (a b x y : List ℕ) → AllByRecursion (λ z. z ≢ c) a → AllByRecursion (λ z. z ≢ c) x
    → a ++ (c ∷ b) ≡ x ++ (c ∷ y) → (a ≡ x) × (b ≡ y)
one_parting_by c [] b [] y p q e = (refl, cc)
one_parting_by c [] b (z ∷ x) y p q e = absurd (q.0 (let h : z ≡ c = cc in h))
one_parting_by c (z ∷ a) b [] y p q e = absurd (p.0 (let h : z ≡ c = cc in h))
one_parting_by c (z ∷ a) b (w ∷ x) y p q e =
    let rest = one_parting_by c a b x y p.1 q.1 (let h : a ++ (c ∷ b) ≡ x ++ (c ∷ y) = cc in h) in
    (let h : z ≡ w = cc in let f = rest.0 in cc, rest.1)

-- at its first byte of a kind a text is parted in one way
pub one_parting : (c : ℕ) (text a b x y : List ℕ) → Lacks c a → Lacks c x → text ≡ a ++ (c ∷ b) → text ≡ x ++ (c ∷ y) → (a ≡ x) × (b ≡ y)
one_parting c text a b x y p q e f =
    one_parting_by c a b x y (recursion_from_All _ a p) (recursion_from_All _ x q) (sym e ∙ f)

lacks_none_by : (c : ℕ) (a b : List ℕ) → AllByRecursion (λ z. z ≢ c) (a ++ (c ∷ b)) → ⊥
lacks_none_by c [] b p = p.0 refl
lacks_none_by c (z ∷ a) b p = lacks_none_by c a b p.1

-- a text that lacks a byte isn't parted at it
pub lacks_none : (c : ℕ) (text a b : List ℕ) → Lacks c text → text ≡ a ++ (c ∷ b) → ⊥
lacks_none c text a b p split = lacks_none_by c a b (recursion_from_All _ _ (subst (Lacks c) split p))

-- at its last byte of a kind a text is parted in one way
pub one_last_parting : (c : ℕ) (a b x y : List ℕ) → Lacks c b → Lacks c y → a ++ (c ∷ b) ≡ x ++ (c ∷ y) → (a ≡ x) × (b ≡ y)
one_last_parting c [] b [] y p q e = (refl, cc)
one_last_parting c [] b (z ∷ x) y p q e = absurd (lacks_none c b x y p (let h : b ≡ x ++ (c ∷ y) = cc in h))
one_last_parting c (z ∷ a) b [] y p q e = absurd (lacks_none c y a b q (let h : y ≡ a ++ (c ∷ b) = cc in h))
one_last_parting c (z ∷ a) b (w ∷ x) y p q e =
    let rest = one_last_parting c a b x y p q (let h : a ++ (c ∷ b) ≡ x ++ (c ∷ y) = cc in h) in
    (let h : z ≡ w = cc in let f = rest.0 in cc, rest.1)

two_marks_by : (c d : ℕ) (a b x y : List ℕ) → c ≢ d → AllByRecursion (λ z. z ≢ d) a → AllByRecursion (λ z. z ≢ c) x → a ++ (c ∷ b) ≡ x ++ (d ∷ y) → ⊥
two_marks_by c d [] b [] y differ p q e = differ (let h : c ≡ d = cc in h)
two_marks_by c d [] b (z ∷ x) y differ p q e = q.0 (let h : z ≡ c = cc in h)
two_marks_by c d (z ∷ a) b [] y differ p q e = p.0 (let h : z ≡ d = cc in h)
two_marks_by c d (z ∷ a) b (w ∷ x) y differ p q e = two_marks_by c d a b x y differ p.1 q.1 (let h : a ++ (c ∷ b) ≡ x ++ (d ∷ y) = cc in h)

-- a text isn't parted at two bytes, where neither first part has the other byte
pub two_marks : (c d : ℕ) (a b x y : List ℕ) → c ≢ d → Lacks d a → Lacks c x → a ++ (c ∷ b) ≡ x ++ (d ∷ y) → ⊥
two_marks c d a b x y differ p q e = two_marks_by c d a b x y differ (recursion_from_All _ a p) (recursion_from_All _ x q) e

digits_lack : (c : ℕ) (text : List ℕ) → 10 ≤ digit_value c → AllDigits 10 text → AllByRecursion (λ b. b ≢ c) text
digits_lack c [] high p = tt
digits_lack c (d ∷ text) high p = (λ is. absurd (omega (arith, ap digit_value is, p.0)), digits_lack c text high p.1)

-- no number has a byte that is no digit
pub decimal_lacks : (c n : ℕ) → 10 ≤ digit_value c → n < 2 ^ 64 → Lacks c (decimal n)
decimal_lacks c n high small = All-from_recursion (λ b. b ≢ c) (decimal n) (digits_lack c (decimal n) high (decimal_is_IsNumeral n small).0.1)

passing_lacks : (c : ℕ) (text : List ℕ) → list_all (λ b. not (b == c)) text ≡ true → AllByRecursion (λ b. b ≢ c) text
passing_lacks c [] h = tt
passing_lacks c (b ∷ text) h = (λ is. grind (arith, nat_tests, h, is), passing_lacks c text (grind (arith, h)))

-- what a test finds, holds
pub tested_lacks : (c : ℕ) (text : List ℕ) → list_all (λ b. not (b == c)) text ≡ true → Lacks c text
tested_lacks c text h = All-from_recursion (λ b. b ≢ c) text (passing_lacks c text h)

pub not_comma : (b : ℕ) → b ≢ 44 → (b == 44) ≡ false
not_comma b h = let f : b ≡ 44 → ⊥ = h in grind (arith, nat_tests, f)

pub free_of_commas : (text : List ℕ) → Lacks 44 text → All (λ b. (b == 44) ≡ false) text
free_of_commas text h = λ k d small. not_comma (slice_index_or text k d) (h k d small)

-- the first part, and those after its comma
pub parts_at : (rest part after : List ℕ) → (rest ≡ part ++ 44 ∷ after) × Lacks 44 part → comma_parts rest ≡ part ∷ comma_parts after
parts_at rest part after cut = ap comma_parts cut.0 ∙ slice_split_at (λ x. x == 44) part 44 after (free_of_commas part cut.1) refl

-- the last part
pub parts_last : (rest : List ℕ) → Lacks 44 rest → comma_parts rest ≡ rest ∷ []
parts_last rest free = slice_split_none (λ x. x == 44) rest (free_of_commas rest free)
