-- Lists some element of which passes a test.
use Rattle.std.proofs.Common.{ℕ, zero, suc, ◌<◌, ◌≡◌, ◌||◌, Bool, true, false, List, [], ◌∷◌, take, length, arith, refl, ap, ◌∙◌}
use Rattle.std.specs.Prelude.{Some, slice_get}
use Rattle.std.specs.List.{list_any}
use Rattle.std.proofs.lemmas.List.{take_all}

-- some place before `n` has an element that passes
pub record PassesBefore {X : Type 0} (p : X → Bool) (xs : List X) (n : ℕ) : Type 0 where
  pub place : ℕ
  pub item : X
  pub before : place < n
  pub at : slice_get xs place ≡ Some item
  pub passes : p item ≡ true

passes_here : {X : Type 0} (p : X → Bool) (x : X) (xs : List X) (n : ℕ) (c : Bool) → p x ≡ c → (c || list_any p (take n xs)) ≡ true →
    (list_any p (take n xs) ≡ true → PassesBefore p xs n) → PassesBefore p (x ∷ xs) (suc n)
passes_here p x xs n true e h later = record { place = 0; item = x; before = omega arith; at = refl; passes = e }
passes_here p x xs n false e h later = let w = later h in record { place = suc w.place; item = w.item; before = omega (arith, w.before); at = w.at; passes = w.passes }

-- where one of the first `n` passes the test, it stands at some place before `n`
pub passes_at : {X : Type 0} (p : X → Bool) (xs : List X) (n : ℕ) → list_any p (take n xs) ≡ true → PassesBefore p xs n
passes_at p [] zero h = absurd (grind arith)
passes_at p [] (suc n) h = absurd (grind arith)
passes_at p (x ∷ xs) zero h = absurd (grind arith)
passes_at p (x ∷ xs) (suc n) h = passes_here p x xs n (p x) refl h (passes_at p xs n)

-- where one before `n` passes the test, one of the first `n` does
pub passes_from : {X : Type 0} (p : X → Bool) (xs : List X) (n i : ℕ) (x : X) → i < n → slice_get xs i ≡ Some x → p x ≡ true →
    list_any p (take n xs) ≡ true
passes_from p [] n i x l at h = absurd (grind arith)
passes_from p (y ∷ xs) zero i x l at h = absurd (omega arith)
passes_from p (y ∷ xs) (suc n) zero x l at h = grind arith
passes_from p (y ∷ xs) (suc n) (suc i) x l at h = let ih = passes_from p xs n i x (omega arith) at h in grind (arith, ih)

-- where one passes the test, it stands at some place
pub passes_somewhere : {X : Type 0} (p : X → Bool) (xs : List X) → list_any p xs ≡ true → PassesBefore p xs (length xs)
passes_somewhere p xs h = passes_at p xs (length xs) (ap (list_any p) (take_all (length xs) xs (omega arith)) ∙ h)

none_by : {X : Type 0} (p : X → Bool) (xs : List X) (c : Bool) → list_any p xs ≡ c →
    ((k : ℕ) (x : X) → slice_get xs k ≡ Some x → p x ≡ true → ⊥) → c ≡ false
none_by p xs true h none = let w = passes_somewhere p xs h in absurd (none w.place w.item w.at w.passes)
none_by p xs false h none = refl

-- where the one at no place passes the test, none does
pub none_passes : {X : Type 0} (p : X → Bool) (xs : List X) → ((k : ℕ) (x : X) → slice_get xs k ≡ Some x → p x ≡ true → ⊥) →
    list_any p xs ≡ false
none_passes p xs none = none_by p xs (list_any p xs) refl none
