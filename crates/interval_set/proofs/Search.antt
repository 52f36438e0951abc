-- Where a number lies among ranges that ascend.
use Rattle.std.proofs.Common.{ℕ, zero, suc, ◌+◌, ◌-◌, ◌^◌, ◌<◌, ◌≤◌, ◌≡◌, List, [], ◌∷◌, true, false, nat_le, nat_lt, refl, ◌∙◌, ap, arith, length, get_or, drop, subst}
use Rattle.std.specs.List.Sorted.{IsNonDecreasingBy, IsPartitionPoint}
use Rattle.std.proofs.lemmas.List.{drop_all}
use Rattle.std.proofs.lemmas.Bool.Decides.{nat_tests}
use Rattle.interval_set.specs.declared.set.Range.{Range}
use Rattle.interval_set.specs.Numbers.{has, Ascends, IsSet, IsLeast}
use Rattle.interval_set.specs.Laws.{has-below, has-lo, spelled_once}
use Rattle.interval_set.proofs.Lists.{Ascends-drop, left_from, zero_range}
use Rattle.interval_set.proofs.Spelling.{has_above, power}

-- the ends of ranges don't fall
end_above : (last from j : ℕ) (rs : List Range) (d : Range) → Ascends last from rs → j < length rs → from ≤ (get_or rs j d).hi
end_above last from j [] d a h = absurd (omega (arith, h))
end_above last from zero (r ∷ rs) d a h = omega (arith, a.0, a.1)
end_above last from (suc j) (r ∷ rs) d a h = let ih = end_above last (r.hi + 2) j rs d a.3 (omega (arith, h)) in omega (arith, ih, a.0, a.1)

pub ends_rise : (last from : ℕ) (rs : List Range) → Ascends last from rs → IsNonDecreasingBy (λ (r : Range). r.hi) rs
ends_rise last from [] a i j d h l = absurd (omega (arith, l))
ends_rise last from (r ∷ rs) a zero zero d h l = omega arith
ends_rise last from (r ∷ rs) a zero (suc j) d h l = let k = end_above last (r.hi + 2) j rs d a.3 (omega (arith, l)) in omega (arith, k)
ends_rise last from (r ∷ rs) a (suc i) zero d h l = absurd (omega (arith, h))
ends_rise last from (r ∷ rs) a (suc i) (suc j) d h l = ends_rise last (r.hi + 2) rs a.3 i j d (omega (arith, h)) (omega (arith, l))

-- ranges that end below the value don't have it
pub has-passed : (i : ℕ) (rs : List Range) (v : ℕ) → ((k : ℕ) (d : Range) → k < i → (get_or rs k d).hi < v) → has rs v ≡ has (drop i rs) v
has-passed zero [] v f = refl
has-passed (suc i) [] v f = refl
has-passed zero (r ∷ rs) v f = refl
has-passed (suc i) (r ∷ rs) v f =
    let h : r.hi < v = f 0 r (omega arith) in
    let ih = has-passed i rs v (λ k d l. f (suc k) d (omega (arith, l))) in
    grind (arith, nat_tests, h, ih)

-- the range at which the search ends has the value, or none does
pub found : (last i : ℕ) (rs : List Range) (v : ℕ) → Ascends last 0 rs → IsPartitionPoint (λ (r : Range). nat_lt r.hi v ≡ true) (λ (r : Range). nat_lt r.hi v ≡ false) rs i → i < length rs →
    has rs v ≡ nat_le (get_or rs i zero_range).lo v
found last i rs v a p h =
    let e = left_from rs i h in
    let P : List Range → Type 0 = λ xs. Ascends last 0 xs in
    let s = subst P e (Ascends-drop last 0 i rs a) in
    let t : nat_lt (get_or rs i zero_range).hi v ≡ false = p.1 i zero_range (omega arith) h in
    let u : v ≤ (get_or rs i zero_range).hi = grind (arith, nat_tests, t) in
    let below : has (drop (i + 1) rs) v ≡ false = has-below last ((get_or rs i zero_range).hi + 2) v (drop (i + 1) rs) s.3 (omega (arith, u)) in
    let q = has-passed i rs v (λ k d l. let f : nat_lt (get_or rs k d).hi v ≡ true = p.0 k d (omega arith) l in grind (arith, nat_tests, f)) in
    let w : has (drop i rs) v ≡ has (get_or rs i zero_range ∷ drop (i + 1) rs) v = ap (λ xs. has xs v) e in
    grind (arith, nat_tests, q, w, below, u)

pub not_found : (i : ℕ) (rs : List Range) (v : ℕ) → IsPartitionPoint (λ (r : Range). nat_lt r.hi v ≡ true) (λ (r : Range). nat_lt r.hi v ≡ false) rs i → length rs ≤ i → has rs v ≡ false
not_found i rs v p h =
    let q = has-passed (length rs) rs v (λ k d l. let f : nat_lt (get_or rs k d).hi v ≡ true = p.0 k d (omega arith) (omega (arith, l, h)) in grind (arith, nat_tests, f)) in
    q ∙ ap (λ xs. has xs v) (drop_all (length rs) rs (omega arith))

-- a list without numbers is empty
pub no_number : (w : ℕ) (rs : List Range) → IsSet w rs → ((n : ℕ) → has rs n ≡ false) → rs ≡ []
no_number w [] s f = refl
no_number w (r ∷ rs) s f = let t = has-lo r rs s.1.1 in let x = f r.lo in cc

-- a set of all numbers is one range
pub every_number : (w : ℕ) (rs : List Range) → IsSet w rs → ((n : ℕ) → n < 2 ^ w → has rs n ≡ true) → rs ≡ record { lo = 0; hi = 2 ^ w - 1 } ∷ []
every_number w rs s f =
    spelled_once (2 ^ w - 1) 0 0 rs (record { lo = 0; hi = 2 ^ w - 1 } ∷ []) s.1 (omega arith, omega arith, omega arith, tt)
    (λ n. let h : 2 ^ w - 1 < n → has rs n ≡ false = has_above (2 ^ w - 1) 0 n rs s.1 in
    let p = power w s.0 in
    let t = f n in
    grind (arith, nat_tests, h, t, p))

-- the first range begins at the least number
pub first_least : (w : ℕ) (rs : List Range) → IsSet w rs → 1 ≤ length rs → IsLeast rs (get_or rs 0 zero_range).lo
first_least w [] s h = absurd (omega (arith, h))
first_least w (r ∷ rs) s h = (
  has-lo r rs s.1.1,
  λ k t. let f : k < r.lo → has (r ∷ rs) k ≡ false = has-below (2 ^ w - 1) r.lo k (r ∷ rs) (omega arith, s.1.1, s.1.2, s.1.3) in grind (arith, f, t),
)
