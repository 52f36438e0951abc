-- How the cubes of a set of flags come from its halves.
use Rattle.std.proofs.Common.{◌≡◌, ◌∙◌, ◌++◌, ◌+◌, ◌*◌, ◌/◌, ◌%◌, ◌^◌, ◌<◌, ◌≤◌, ◌==◌, ⊎_elim, ℕ, zero, suc, List, [], ◌∷◌, Bool, true, false, ◌&&◌, map, if◌then◌else◌, refl, ap, sym, subst, arith}
use Rattle.std.proofs.lemmas.Bool.{cases_lt}
use Rattle.std.proofs.lemmas.List.{map-append}
use Rattle.std.proofs.lemmas.Nat.{shr-shr}
use Rattle.std.proofs.Math.Nat.{mul-add, mul_assoc, mul_comm}
use Rattle.primitives.specs.Holds.{has_bit}
use Rattle.dump_print.specs.declared.flags.FlagCube.{FlagCube}
use Rattle.dump_print.specs.Flags.{all_below, beside, cubes_of, flag_cubes, placed, same_truth}

-- ---- tests of all numbers below
pub all_below_more : (n : ℕ) (test : ℕ → Bool) → all_below n test ≡ true → test n ≡ true → all_below (n + 1) test ≡ true
all_below_more n test all here =
    let P : ℕ → Type 0 = λ m. all_below m test ≡ true in
    let both : (all_below n test && test n) ≡ true = ap (λ b. b && test n) all ∙ here in
    let e : suc n ≡ n + 1 = omega arith in subst P e both

and_false : (a b : Bool) → b ≡ false → (a && b) ≡ false
and_false true b e = e
and_false false b e = refl

pub all_below_fails : (m n : ℕ) (test : ℕ → Bool) → n < m → test n ≡ false → all_below m test ≡ false
all_below_fails zero n test l e = absurd (omega arith)
all_below_fails (suc m) n test l e =
    ⊎_elim (λ (less : n < m). ap (λ b. b && test m) (all_below_fails m n test less e))
    (λ (more : m ≤ n). let same : n ≡ m = omega arith in and_false (all_below m test) (test m) (ap test (sym same) ∙ e)) (cases_lt n m)

-- ---- places of bits
swap : (w n : ℕ) → w * (2 * n) ≡ 2 * w * n
swap w n = sym (mul_assoc w 2 n) ∙ ap (λ x. x * n) (mul_comm w 2)

pub odd_place : (w n : ℕ) → w * (2 * n + 1) ≡ w * (2 * n) + w
odd_place w n = omega (arith, mul-add w (2 * n) 1)

even_view : (numbers w : ℕ) → ◌≡◌ {A = ℕ → Bool} (λ n. has_bit numbers (w * (2 * n))) (λ n. has_bit numbers (2 * w * n))
even_view numbers w = λ i n. has_bit numbers (swap w n i)

odd_at : (numbers w n : ℕ) → has_bit numbers (w * (2 * n + 1)) ≡ has_bit (numbers / 2 ^ w) (2 * w * n)
odd_at numbers w n =
    let e : w * (2 * n + 1) ≡ w + 2 * w * n = omega (arith, mul-add w (2 * n) 1, swap w n) in
    ap (λ k. numbers / 2 ^ k % 2 == 1) e ∙ ap (λ q. q % 2 == 1) (sym (shr-shr numbers w (2 * w * n)))

odd_view : (numbers w : ℕ) → ◌≡◌ {A = ℕ → Bool} (λ n. has_bit numbers (w * (2 * n + 1))) (λ n. has_bit (numbers / 2 ^ w) (2 * w * n))
odd_view numbers w = λ i n. odd_at numbers w n i

-- ---- masks that are put together
spread : (x w m a : ℕ) → x + w * (2 * m + a) ≡ x + w * a + 2 * w * m
spread x w m a = omega (arith, mul-add w (2 * m) a, swap w m)

abbrev moved : ℕ → ℕ → ℕ → FlagCube → FlagCube
moved w a b front = record { mask = front.mask + w * a; comp = front.comp + w * b }

map_placed : (w a b : ℕ) (front : FlagCube) (cubes : List FlagCube) →
    map (placed w front) (map (beside a b) cubes) ≡ map (placed (2 * w) (moved w a b front)) cubes
map_placed w a b front [] = refl
map_placed w a b front (c ∷ cubes) = λ i.
    record { mask = spread front.mask w c.mask a i; comp = spread front.comp w c.comp b i } ∷ map_placed w a b front cubes i

none_more : (x w : ℕ) → x + w * 0 ≡ x
none_more x w = omega arith

one_more : (x w : ℕ) → x + w * 1 ≡ x + w
one_more x w = omega arith

in_neither : (w : ℕ) (front : FlagCube) → moved w 0 0 front ≡ front
in_neither w front = λ i. record { mask = none_more front.mask w i; comp = none_more front.comp w i }

in_mask : (w : ℕ) (front : FlagCube) → moved w 1 0 front ≡ record { mask = front.mask + w; comp = front.comp }
in_mask w front = λ i. record { mask = one_more front.mask w i; comp = none_more front.comp w i }

in_both : (w : ℕ) (front : FlagCube) → moved w 1 1 front ≡ record { mask = front.mask + w; comp = front.comp + w }
in_both w front = λ i. record { mask = one_more front.mask w i; comp = one_more front.comp w i }

-- whether the two halves agree at a number
abbrev pub same_at : ℕ → ℕ → ℕ → Bool
same_at numbers w n = same_truth (has_bit numbers (w * (2 * n))) (has_bit numbers (w * (2 * n + 1)))

abbrev pub cubes_at : ℕ → ℕ → FlagCube → ℕ → List FlagCube
cubes_at numbers w front count = map (placed w front) (flag_cubes count (λ n. has_bit numbers (w * n)))

at_none : (b : Bool) (w : ℕ) (front : FlagCube) → map (placed w front) (if b then record { mask = 0; comp = 0 } ∷ [] else []) ≡ (if b then front ∷ [] else [])
at_none true w front = λ i. record { mask = none_more front.mask w i; comp = none_more front.comp w i } ∷ []
at_none false w front = refl

-- no flag is left
pub no_flag : (numbers w count : ℕ) (front : FlagCube) (b : Bool) → count ≡ 0 → has_bit numbers 0 ≡ b →
    cubes_at numbers w front count ≡ (if b then front ∷ [] else [])
unfolding flag_cubes
no_flag numbers w count front b e h =
    let first : w * 0 ≡ 0 = omega arith in
    ap (cubes_at numbers w front) e
    ∙ ap (λ k. map (placed w front) (if has_bit numbers k then record { mask = 0; comp = 0 } ∷ [] else [])) first
    ∙ ap (λ t. map (placed w front) (if t then record { mask = 0; comp = 0 } ∷ [] else [])) h ∙ at_none b w front

-- the halves are the same
pub same_halves : (numbers w count k : ℕ) (front : FlagCube) → count ≡ suc k → all_below (2 ^ k) (same_at numbers w) ≡ true →
    cubes_at numbers w front count ≡ cubes_at numbers (2 * w) front k
unfolding flag_cubes
same_halves numbers w count k front e all =
    let even : List FlagCube = flag_cubes k (λ n. has_bit numbers (w * (2 * n))) in
    let odd : List FlagCube = flag_cubes k (λ n. has_bit numbers (w * (2 * n + 1))) in
    ap (cubes_at numbers w front) e
    ∙ ap (λ b. map (placed w front) (if b then map (beside 0 0) even else map (beside 1 0) even ++ map (beside 1 1) odd)) all
    ∙ map_placed w 0 0 front even ∙ ap (λ f. map (placed (2 * w) f) even) (in_neither w front)
    ∙ ap (λ v. map (placed (2 * w) front) (flag_cubes k v)) (even_view numbers w)

-- the halves differ
pub other_halves : (numbers w count k : ℕ) (front : FlagCube) → count ≡ suc k → all_below (2 ^ k) (same_at numbers w) ≡ false →
    cubes_at numbers w front count
    ≡ cubes_at numbers (2 * w) (record { mask = front.mask + w; comp = front.comp }) k
    ++ cubes_at (numbers / 2 ^ w) (2 * w) (record { mask = front.mask + w; comp = front.comp + w }) k
unfolding flag_cubes
other_halves numbers w count k front e all =
    let even : List FlagCube = flag_cubes k (λ n. has_bit numbers (w * (2 * n))) in
    let odd : List FlagCube = flag_cubes k (λ n. has_bit numbers (w * (2 * n + 1))) in
    ap (cubes_at numbers w front) e
    ∙ ap (λ b. map (placed w front) (if b then map (beside 0 0) even else map (beside 1 0) even ++ map (beside 1 1) odd)) all
    ∙ map-append (placed w front) (map (beside 1 0) even) (map (beside 1 1) odd)
    ∙ (λ i. (map_placed w 1 0 front even ∙ ap (λ f. map (placed (2 * w) f) even) (in_mask w front)) i
    ++ (map_placed w 1 1 front odd ∙ ap (λ f. map (placed (2 * w) f) odd) (in_both w front)) i)
    ∙ (λ i. map (placed (2 * w) (record { mask = front.mask + w; comp = front.comp })) (flag_cubes k (even_view numbers w i))
    ++ map (placed (2 * w) (record { mask = front.mask + w; comp = front.comp + w })) (flag_cubes k (odd_view numbers w i)))

-- ---- weights
pub record Half (w k : ℕ) : Type 0 where
  pub some : 1 ≤ w
  pub small : w ≤ 32
  pub half : w * 2 ^ k ≡ 32
  pub twice : 2 * w * 2 ^ k ≡ 64

halves : (w k : ℕ) → k < 6 → w * 2 ^ suc k ≡ 64 → Half w k
halves w zero s h = record { some = omega arith; small = omega arith; half = omega arith; twice = omega arith }
halves w (suc zero) s h = record { some = omega arith; small = omega arith; half = omega arith; twice = omega arith }
halves w (suc (suc zero)) s h = record { some = omega arith; small = omega arith; half = omega arith; twice = omega arith }
halves w (suc (suc (suc zero))) s h = record { some = omega arith; small = omega arith; half = omega arith; twice = omega arith }
halves w (suc (suc (suc (suc zero)))) s h = record { some = omega arith; small = omega arith; half = omega arith; twice = omega arith }
halves w (suc (suc (suc (suc (suc zero))))) s h = record { some = omega arith; small = omega arith; half = omega arith; twice = omega arith }
halves w (suc (suc (suc (suc (suc (suc k)))))) s h = absurd (omega arith)

pub half_of : (w count k : ℕ) → count ≡ suc k → count ≤ 6 → w * 2 ^ count ≡ 64 → Half w k
half_of w count k e s h = halves w k (omega arith) (ap (λ c. w * 2 ^ c) (sym e) ∙ h)

at_weight : (v w n : ℕ) → w ≡ v → v * (2 * n) + v < 64 → w * (2 * n) + w < 64
at_weight v w n e l = let P : ℕ → Type 0 = λ x. x * (2 * n) + x < 64 in subst P (sym e) l

-- each place that is looked at is below 64
pub place_below : (w count n : ℕ) → count < 6 → w * 2 ^ count ≡ 32 → n < 2 ^ count → w * (2 * n) + w < 64
place_below w zero n s e l = at_weight 32 w n (omega arith) (omega arith)
place_below w (suc zero) n s e l = at_weight 16 w n (omega arith) (omega arith)
place_below w (suc (suc zero)) n s e l = at_weight 8 w n (omega arith) (omega arith)
place_below w (suc (suc (suc zero))) n s e l = at_weight 4 w n (omega arith) (omega arith)
place_below w (suc (suc (suc (suc zero)))) n s e l = at_weight 2 w n (omega arith) (omega arith)
place_below w (suc (suc (suc (suc (suc zero))))) n s e l = at_weight 1 w n (omega arith) (omega arith)
place_below w (suc (suc (suc (suc (suc (suc k)))))) n s e l = absurd (omega arith)

pub shl_is : (count : ℕ) → count < 6 → 1 * 2 ^ count % 2 ^ 32 ≡ 2 ^ count
shl_is zero s = refl
shl_is (suc zero) s = refl
shl_is (suc (suc zero)) s = refl
shl_is (suc (suc (suc zero))) s = refl
shl_is (suc (suc (suc (suc zero)))) s = refl
shl_is (suc (suc (suc (suc (suc zero))))) s = refl
shl_is (suc (suc (suc (suc (suc (suc k)))))) s = absurd (omega arith)

once : (x : ℕ) → 0 + 1 * x ≡ x
once x = omega arith

placed_once : (cubes : List FlagCube) → map (placed 1 (record { mask = 0; comp = 0 })) cubes ≡ cubes
placed_once [] = refl
placed_once (c ∷ cubes) = λ i. record { mask = once c.mask i; comp = once c.comp i } ∷ placed_once cubes i

one_time : (x : ℕ) → 1 * x ≡ x
one_time x = omega arith

whole_view : (numbers : ℕ) → ◌≡◌ {A = ℕ → Bool} (λ n. has_bit numbers (1 * n)) (has_bit numbers)
whole_view numbers = λ i n. has_bit numbers (one_time n i)

-- from the first flag on
pub all_cubes : (numbers : ℕ) → cubes_at numbers 1 (record { mask = 0; comp = 0 }) 6 ≡ cubes_of numbers
all_cubes numbers = placed_once (flag_cubes 6 (λ n. has_bit numbers (1 * n))) ∙ ap (flag_cubes 6) (whole_view numbers)

-- the halves differ at a number
pub differ_at : (a b : Bool) → (a ≡ b → ⊥) → same_truth a b ≡ false
differ_at true true d = absurd (d refl)
differ_at true false d = refl
differ_at false true d = refl
differ_at false false d = absurd (d refl)
