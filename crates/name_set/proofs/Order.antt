-- The order of names: shorter ones first, those of one length by their bytes.
use Rattle.std.proofs.Common.{◌≡◌, ℕ, List, [], ◌∷◌, ◌++◌, true, false, ◌&&◌, ◌||◌, length, length-append, nat_lt, refl, arith}
use Rattle.std.specs.Str.{bytes_eq}
use Rattle.std.proofs.lemmas.Bool.Decides.{nat_tests}
use Rattle.std.proofs.lemmas.Slice.Eq.{bytes_eq-Decides}
use Rattle.name_set.specs.Least.{is_before, is_below}

below_itself : (a : List ℕ) → is_below a a ≡ false
below_itself [] = refl
below_itself (x ∷ a) = let ih = below_itself a in grind (arith, nat_tests, ih)

below_trans : (a b c : List ℕ) → is_below a b ≡ true → is_below b c ≡ true → is_below a c ≡ true
below_trans [] [] c h k = absurd (grind (arith, h))
below_trans [] (y ∷ b) [] h k = absurd (grind (arith, k))
below_trans [] (y ∷ b) (z ∷ c) h k = refl
below_trans (x ∷ a) [] c h k = absurd (grind (arith, h))
below_trans (x ∷ a) (y ∷ b) [] h k = absurd (grind (arith, k))
below_trans (x ∷ a) (y ∷ b) (z ∷ c) h k = let ih = below_trans a b c in grind (arith, nat_tests, ih, h, k)

below_one : (a b : List ℕ) → is_below a b ≡ false → is_below b a ≡ false → a ≡ b
below_one [] [] h k = refl
below_one [] (y ∷ b) h k = absurd (grind (arith, h))
below_one (x ∷ a) [] h k = absurd (grind (arith, k))
below_one (x ∷ a) (y ∷ b) h k =
    let same : x ≡ y = grind (arith, nat_tests, h, k) in
    let rest : a ≡ b = below_one a b (grind (arith, nat_tests, same, h)) (grind (arith, nat_tests, same, k)) in
    rw (same, rest) refl

below_last : (u w : List ℕ) (b c : ℕ) → length u ≡ length w → is_below (u ++ b ∷ []) (w ++ c ∷ []) ≡ (is_below u w || (bytes_eq u w && nat_lt b c))
below_last [] [] b c e = grind (arith, nat_tests)
below_last [] (y ∷ w) b c e = absurd (omega arith)
below_last (x ∷ u) [] b c e = absurd (omega arith)
below_last (x ∷ u) (y ∷ w) b c e = let ih = below_last u w b c (omega arith) in grind (arith, nat_tests, ih)

pub before_itself : (a : List ℕ) → is_before a a ≡ false
before_itself a = let f = below_itself a in grind (arith, nat_tests, f)

pub before_trans : (a b c : List ℕ) → is_before a b ≡ true → is_before b c ≡ true → is_before a c ≡ true
before_trans a b c h k = let f = below_trans a b c in grind (arith, nat_tests, f, h, k)

-- names of which neither stands before the other are one
pub before_one : (a b : List ℕ) → is_before a b ≡ false → is_before b a ≡ false → a ≡ b
before_one a b h k = below_one a b (grind (arith, nat_tests, h, k)) (grind (arith, nat_tests, h, k))

-- a longer name stands no earlier
pub grows_after : (n m : List ℕ) (b : ℕ) → is_before n m ≡ false → is_before (n ++ b ∷ []) m ≡ false
grows_after n m b h = let l = length-append n (b ∷ []) in grind (arith, nat_tests, l, h)

-- names with a byte more keep their order
pub longer_after : (u w : List ℕ) (b c : ℕ) → is_before u w ≡ false → (u ≡ w → nat_lt b c ≡ false) → is_before (u ++ b ∷ []) (w ++ c ∷ []) ≡ false
longer_after u w b c h first =
    let k = length-append u (b ∷ []) in
    let l = length-append w (c ∷ []) in
    let e = below_last u w b c in
    let s : bytes_eq u w ≡ true → nat_lt b c ≡ false = λ t. first ((bytes_eq-Decides u w).0 t) in
    grind (arith, nat_tests, k, l, e, s, h)
