-- What patterns have in common.
use Rattle.std.proofs.Common.{◌≡◌, ℕ, List, [], ◌∷◌, ◌++◌, Bool, true, false, inl, inr, refl, lit<, arith}
use Rattle.name_set.specs.declared.pattern.Pattern.{Pattern}
use Rattle.name_set.specs.Bytes.{AreBytes}
use Rattle.name_set.specs.Patterns.{OneCoversOrApart, covers, fits, text_of}
use Rattle.name_set.proofs.ByteLists.{bytes_more}
use Rattle.name_set.proofs.Patterns.{fits_text, one_covers, under_exact, under_fits}

-- a pattern that matches each name of another, over names of bytes, covers it
pub covers_only : (a b : Pattern) → AreBytes (text_of b) → ((name : List ℕ) → AreBytes name → fits b name ≡ true → fits a name ≡ true) → covers a b ≡ true
covers_only a b are every = under_exact a b
    (every (text_of b) are (fits_text b))
    (every (text_of b ++ 0 ∷ []) (bytes_more (text_of b) 0 are (lit< tt)))

-- a name of both
abbrev Shared : Pattern → Pattern → Type 0
Shared a b = (name : List ℕ) × AreBytes name × (fits a name ≡ true) × (fits b name ≡ true)

pub covers_shared : (a b : Pattern) → AreBytes (text_of b) → covers a b ≡ true → Shared a b
covers_shared a b are h = (text_of b, are, under_fits a b (text_of b) h (fits_text b), fits_text b)

pub covered_shared : (a b : Pattern) → AreBytes (text_of a) → covers b a ≡ true → Shared a b
covered_shared a b are h = (text_of a, are, fits_text a, under_fits b a (text_of a) h (fits_text a))

-- of two patterns one covers the other, or they share no name
pub one_or_apart : (a b : Pattern) → OneCoversOrApart a b
one_or_apart a b = by_cases (covers a b) (covers b a) refl refl
  where
    by_cases : (c d : Bool) → covers a b ≡ c → covers b a ≡ d → OneCoversOrApart a b
    by_cases true d is also = inl is
    by_cases false true is also = inr (inl also)
    by_cases false false is also = inr (inr (λ name h k. let f = one_covers a b name h k in grind (arith, f, is, also)))
