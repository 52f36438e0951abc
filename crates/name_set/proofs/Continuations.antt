-- A name and one byte more.
use Rattle.std.proofs.Common.{◌≡◌, ◌==◌, ℕ, List, [], ◌∷◌, ◌++◌, Bool, true, false, ◌⊎◌, inl, inr, refl, arith}
use Rattle.std.specs.Str.{bytes_eq}
use Rattle.std.proofs.lemmas.Bool.Decides.{nat_tests}
use Rattle.std.proofs.lemmas.Slice.Eq.{bytes_eq-Decides}
use Rattle.name_set.specs.declared.pattern.Pattern.{Pattern}
use Rattle.name_set.specs.Patterns.{begins, covers, fits, text_of}
use Rattle.name_set.proofs.Patterns.{begins_append, begins_trans}

pub begins_snoc : (t n : List ℕ) (b : ℕ) → begins t (n ++ b ∷ []) ≡ true → (t ≡ n ++ b ∷ []) ⊎ (begins t n ≡ true)
begins_snoc [] n b h = inr refl
begins_snoc (x ∷ []) [] b h = inl (let e : x ≡ b = grind (arith, nat_tests, h) in rw e refl)
begins_snoc (x ∷ y ∷ t) [] b h = absurd (grind (arith, nat_tests, h))
begins_snoc (x ∷ t) (y ∷ n) b h =
    let e : x ≡ y = grind (arith, nat_tests, h) in
    let f : begins t (n ++ b ∷ []) ≡ true = grind (arith, nat_tests, h) in
    elim (begins_snoc t n b f) [
      | inl g ↦ inl (rw (e, g) refl)
      | inr g ↦ inr (grind (arith, nat_tests, e, g))
    ]

-- a pattern that matches each name that begins with this one
pub longer_fits : (p : Pattern) (n : List ℕ) (b : ℕ) → covers p (Pattern.Prefix n) ≡ true → fits p (n ++ b ∷ []) ≡ true
longer_fits (Pattern.Exact t) n b h = absurd (grind (arith, h))
longer_fits (Pattern.Prefix t) n b h = begins_trans t n (n ++ b ∷ []) h (begins_append n (b ∷ []))

begins_last : (n : List ℕ) (c b : ℕ) → begins (n ++ c ∷ []) (n ++ b ∷ []) ≡ (c == b)
begins_last [] c b = grind (arith, nat_tests)
begins_last (x ∷ n) c b = let ih = begins_last n c b in grind (arith, nat_tests, ih)

eq_last : (n : List ℕ) (c b : ℕ) → bytes_eq (n ++ c ∷ []) (n ++ b ∷ []) ≡ (c == b)
eq_last [] c b = grind (arith, nat_tests)
eq_last (x ∷ n) c b = let ih = eq_last n c b in grind (arith, nat_tests, ih)

-- a pattern whose text is the name and one byte more
pub last_fits : (p : Pattern) (n : List ℕ) (c b : ℕ) → text_of p ≡ n ++ c ∷ [] → fits p (n ++ b ∷ []) ≡ (c == b)
last_fits (Pattern.Exact t) n c b is = rw is (eq_last n c b)
last_fits (Pattern.Prefix t) n c b is = rw is (begins_last n c b)

-- any other pattern
pub none_fits : (p : Pattern) (n : List ℕ) (b : ℕ) → covers p (Pattern.Prefix n) ≡ false → (text_of p ≡ n ++ b ∷ [] → ⊥) → fits p (n ++ b ∷ []) ≡ false
none_fits (Pattern.Exact t) n b h other = by_cases (bytes_eq t (n ++ b ∷ [])) refl
  where
    by_cases : (c : Bool) → bytes_eq t (n ++ b ∷ []) ≡ c → bytes_eq t (n ++ b ∷ []) ≡ false
    by_cases true e = absurd (other ((bytes_eq-Decides t (n ++ b ∷ [])).0 e))
    by_cases false e = e
none_fits (Pattern.Prefix t) n b h other = by_cases (begins t (n ++ b ∷ [])) refl
  where
    by_cases : (c : Bool) → begins t (n ++ b ∷ []) ≡ c → begins t (n ++ b ∷ []) ≡ false
    by_cases true e = elim (begins_snoc t n b e) [
      | inl f ↦ absurd (other f)
      | inr f ↦ absurd (grind (arith, f, h))
    ]
    by_cases false e = e
