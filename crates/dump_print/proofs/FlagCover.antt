-- The cubes of a set of flags: one matches each number of the set, and none any other number.
use Rattle.std.proofs.Common.{◌≡◌, ◌∙◌, ◌++◌, ◌+◌, ◌*◌, ◌/◌, ◌%◌, ◌^◌, ◌<◌, ◌≤◌, ◌==◌, ◌⊎◌, ⊎_elim, inl, inr, ℕ, zero, suc, min, List, [], ◌∷◌, Bool, true, false, ◌&&◌, map, bit_and, if◌then◌else◌, refl, ap, sym, arith}
use Rattle.std.proofs.lemmas.Bool.{cases_lt}
use Rattle.std.proofs.lemmas.Bool.Decides.{nat_tests}
use lib.Bits.{and_step}
use Rattle.primitives.specs.Holds.{has_bit}
use Rattle.dump_print.specs.declared.flags.FlagCube.{FlagCube}
use Rattle.dump_print.specs.Flags.{all_below, beside, cubes_of, flag_cubes, same_truth}
use Rattle.dump_print.specs.FlagCover.{match_count, matches}

-- a number and a cube, one flag further
half_and : (n m a : ℕ) → a < 2 → bit_and n (2 * m + a) ≡ 2 * bit_and (n / 2) m + min (n % 2) a
half_and n m a s =
    let high : (2 * m + a) / 2 ≡ m = omega arith in
    let low : (2 * m + a) % 2 ≡ a = omega arith in
    and_step n (2 * m + a) ∙ (λ i. bit_and (n / 2) (high i) * 2 + min (n % 2) (low i)) ∙ omega arith

same_number : (x c p b : ℕ) → p < 2 → b < 2 → ((2 * x + p) == (2 * c + b)) ≡ ((x == c) && (p == b))
same_number x c p b s t = grind (arith, nat_tests)

matches_beside : (n a b : ℕ) (c : FlagCube) → a < 2 → b < 2 → matches n (beside a b c) ≡ (matches (n / 2) c && (min (n % 2) a == b))
matches_beside n a b c s t =
    ap (λ x. x == 2 * c.comp + b) (half_and n c.mask a s) ∙ same_number (bit_and (n / 2) c.mask) c.comp (min (n % 2) a) b (omega arith) t

counted : (q x : Bool) (rest more : ℕ) → more ≡ (if q then rest else 0) → (if x && q then 1 else 0) + more ≡ (if q then (if x then 1 else 0) + rest else 0)
counted true true rest more e = ap (λ k. 1 + k) e
counted true false rest more e = ap (λ k. 0 + k) e
counted false true rest more e = ap (λ k. 0 + k) e
counted false false rest more e = ap (λ k. 0 + k) e

count_beside : (n a b : ℕ) (q : Bool) (cubes : List FlagCube) → a < 2 → b < 2 → (min (n % 2) a == b) ≡ q →
    match_count (map (beside a b) cubes) n ≡ (if q then match_count cubes (n / 2) else 0)
count_beside n a b true [] s t e = refl
count_beside n a b false [] s t e = refl
count_beside n a b q (c ∷ cubes) s t e =
    ap (λ x. (if x then 1 else 0) + match_count (map (beside a b) cubes) n)
    (matches_beside n a b c s t ∙ ap (λ y. matches (n / 2) c && y) e)
    ∙ counted q (matches (n / 2) c) (match_count cubes (n / 2)) _ (count_beside n a b q cubes s t e)

count_joined : (n : ℕ) (a b : List FlagCube) → match_count (a ++ b) n ≡ match_count a n + match_count b n
count_joined n [] b = omega arith
count_joined n (c ∷ a) b = omega (arith, count_joined n a b)

same_from : (a b : Bool) → same_truth a b ≡ true → a ≡ b
same_from true true e = refl
same_from true false e = let wrong : false ≡ true = e in cc
same_from false true e = let wrong : false ≡ true = e in cc
same_from false false e = refl

all_and : (a b : Bool) → (a && b) ≡ true → (a ≡ true) × (b ≡ true)
all_and true b e = (refl, e)
all_and false b e = (e, let wrong : false ≡ true = e in cc)

all_at : (m n : ℕ) (test : ℕ → Bool) → all_below m test ≡ true → n < m → test n ≡ true
all_at zero n test e l = absurd (omega arith)
all_at (suc m) n test e l =
    let both = all_and (all_below m test) (test m) e in
    ⊎_elim (λ (less : n < m). all_at m n test both.0 less)
    (λ (more : m ≤ n). let same : m ≡ n = omega arith in ap test (sym same) ∙ both.1) (cases_lt n m)

parity : (n : ℕ) → (n % 2 ≡ 0) ⊎ (n % 2 ≡ 1)
parity n = ⊎_elim (λ (l : n % 2 < 1). inl (omega arith)) (λ (m : 1 ≤ n % 2). inr (omega arith)) (cases_lt (n % 2) 1)

-- the next flag goes into neither mask nor comp
cover_same : (has : ℕ → Bool) (k n : ℕ) → all_below (2 ^ k) (λ m. same_truth (has (2 * m)) (has (2 * m + 1))) ≡ true → n / 2 < 2 ^ k →
    has (2 * (n / 2)) ≡ has n
cover_same has k n all l =
    ⊎_elim (λ (e : n % 2 ≡ 0). let here : 2 * (n / 2) ≡ n = omega arith in ap has here)
    (λ (e : n % 2 ≡ 1). let here : 2 * (n / 2) + 1 ≡ n = omega arith in
    same_from _ _ (all_at (2 ^ k) (n / 2) (λ m. same_truth (has (2 * m)) (has (2 * m + 1))) all l) ∙ ap has here) (parity n)

halved : (k n : ℕ) → n < 2 ^ suc k → n / 2 < 2 ^ k
halved k n l = omega arith

add_none : (x : ℕ) → x + 0 ≡ x
add_none x = omega arith

none_add : (x : ℕ) → 0 + x ≡ x
none_add x = omega arith

-- the next flag tells the halves apart
cover_other : (has : ℕ → Bool) (n : ℕ) (even odd : List FlagCube) → match_count even (n / 2) ≡ (if has (2 * (n / 2)) then 1 else 0) →
    match_count odd (n / 2) ≡ (if has (2 * (n / 2) + 1) then 1 else 0) →
    match_count (map (beside 1 0) even ++ map (beside 1 1) odd) n ≡ (if has n then 1 else 0)
cover_other has n even odd e o =
    count_joined n (map (beside 1 0) even) (map (beside 1 1) odd)
    ∙ ⊎_elim
    (λ (p : n % 2 ≡ 0).
    let first : (min (n % 2) 1 == 0) ≡ true = grind (arith, nat_tests) in
    let second : (min (n % 2) 1 == 1) ≡ false = grind (arith, nat_tests) in
    let here : 2 * (n / 2) ≡ n = omega arith in
    (λ i. count_beside n 1 0 true even (omega arith) (omega arith) first i + count_beside n 1 1 false odd (omega arith) (omega arith) second i)
    ∙ add_none _ ∙ e ∙ ap (λ m. if has m then 1 else 0) here)
    (λ (p : n % 2 ≡ 1).
    let first : (min (n % 2) 1 == 0) ≡ false = grind (arith, nat_tests) in
    let second : (min (n % 2) 1 == 1) ≡ true = grind (arith, nat_tests) in
    let here : 2 * (n / 2) + 1 ≡ n = omega arith in
    (λ i. count_beside n 1 0 false even (omega arith) (omega arith) first i + count_beside n 1 1 true odd (omega arith) (omega arith) second i)
    ∙ none_add _ ∙ o ∙ ap (λ m. if has m then 1 else 0) here)
    (parity n)

cover_first : (b : Bool) (n : ℕ) → n < 1 → match_count (if b then record { mask = 0; comp = 0 } ∷ [] else []) n ≡ (if b then 1 else 0)
cover_first true zero l = refl
cover_first true (suc n) l = absurd (omega arith)
cover_first false n l = refl

cover_split : (k : ℕ) (has : ℕ → Bool) (n : ℕ) → n / 2 < 2 ^ k → (b : Bool) →
    all_below (2 ^ k) (λ m. same_truth (has (2 * m)) (has (2 * m + 1))) ≡ b → (even odd : List FlagCube) →
    match_count even (n / 2) ≡ (if has (2 * (n / 2)) then 1 else 0) → match_count odd (n / 2) ≡ (if has (2 * (n / 2) + 1) then 1 else 0) →
    match_count (if b then map (beside 0 0) even else map (beside 1 0) even ++ map (beside 1 1) odd) n ≡ (if has n then 1 else 0)
cover_split k has n l true all even odd e o =
    let both : (min (n % 2) 0 == 0) ≡ true = grind (arith, nat_tests) in
    count_beside n 0 0 true even (omega arith) (omega arith) both ∙ e ∙ ap (λ b. if b then 1 else 0) (cover_same has k n all l)
cover_split k has n l false all even odd e o = cover_other has n even odd e o

cover : (k : ℕ) (has : ℕ → Bool) (n : ℕ) → n < 2 ^ k → match_count (flag_cubes k has) n ≡ (if has n then 1 else 0)
unfolding flag_cubes
cover zero has n l =
    let none : n ≡ 0 = omega arith in
    cover_first (has 0) n (omega arith) ∙ ap (λ m. if has m then 1 else 0) (sym none)
cover (suc k) has n l =
    cover_split k has n (halved k n l) (all_below (2 ^ k) (λ m. same_truth (has (2 * m)) (has (2 * m + 1)))) refl
    (flag_cubes k (λ m. has (2 * m))) (flag_cubes k (λ m. has (2 * m + 1)))
    (cover k (λ m. has (2 * m)) (n / 2) (halved k n l)) (cover k (λ m. has (2 * m + 1)) (n / 2) (halved k n l))

pub flags_covered : (flags n : ℕ) → n < 64 → match_count (cubes_of flags) n ≡ (if has_bit flags n then 1 else 0)
flags_covered flags n l = cover 6 (has_bit flags) n l
