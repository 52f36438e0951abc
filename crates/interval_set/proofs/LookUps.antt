-- Ranges that a range falls between.
use Rattle.std.proofs.Common.{ℕ, suc, ◌+◌, ◌<◌, ◌≤◌, ◌≡◌, List, [], ◌∷◌, Bool, true, false, not, ◌&&◌, ◌||◌, nat_lt, refl, sym, ◌∙◌, ap, arith, length, get_or, drop, subst}
use Rattle.std.specs.List.Sorted.{IsPartitionPoint}
use Rattle.std.proofs.lemmas.Bool.Decides.{nat_tests}
use Rattle.std.proofs.lemmas.List.{drop_all}
use Rattle.interval_set.specs.declared.set.Range.{Range}
use Rattle.interval_set.specs.Numbers.{has, is_within, Ascends}
use Rattle.interval_set.specs.Laws.{has-below}
use Rattle.interval_set.proofs.Lists.{Ascends-drop, left_from, zero_range}
use Rattle.interval_set.proofs.Search.{has-passed}

-- the range is below the one at which the search ends
pub between : (last i : ℕ) (rs : List Range) (y : Range) → Ascends last 0 rs →
    IsPartitionPoint (λ (r : Range). nat_lt r.hi y.lo ≡ true) (λ (r : Range). nat_lt r.hi y.lo ≡ false) rs i → i < length rs →
    y.hi < (get_or rs i zero_range).lo → (n : ℕ) → (has rs n && is_within y n) ≡ false
between last i rs y a p h less n =
    let e = left_from rs i h in
    let P : List Range → Type 0 = λ xs. Ascends last 0 xs in
    let s = subst P e (Ascends-drop last 0 i rs a) in
    let below : n < (get_or rs i zero_range).lo → has (get_or rs i zero_range ∷ drop (i + 1) rs) n ≡ false =
    λ l. has-below last (get_or rs i zero_range).lo n (get_or rs i zero_range ∷ drop (i + 1) rs) (omega arith, s.1, s.2, s.3) l in
    let q : y.lo ≤ n → has rs n ≡ has (drop i rs) n =
    λ l. has-passed i rs n (λ k d m. let f : nat_lt (get_or rs k d).hi y.lo ≡ true = p.0 k d (omega arith) m in grind (arith, nat_tests, f, l)) in
    let w : has (drop i rs) n ≡ has (get_or rs i zero_range ∷ drop (i + 1) rs) n = ap (λ xs. has xs n) e in
    outside (has rs n) (is_within y n) (λ t. let l : y.lo ≤ n = grind (arith, nat_tests, t) in let m : n < (get_or rs i zero_range).lo = grind (arith, nat_tests, t, less) in q l ∙ w ∙ below m)
  where
    outside : (b c : Bool) → (c ≡ true → b ≡ false) → (b && c) ≡ false
    outside b true f = let e = f refl in rw e refl
    outside true false f = refl
    outside false false f = refl

-- the range is above all
pub behind : (i : ℕ) (rs : List Range) (y : Range) → IsPartitionPoint (λ (r : Range). nat_lt r.hi y.lo ≡ true) (λ (r : Range). nat_lt r.hi y.lo ≡ false) rs i → i ≡ length rs →
    (n : ℕ) → (has rs n && is_within y n) ≡ false
behind i rs y p h n =
    let q : y.lo ≤ n → has rs n ≡ has (drop (length rs) rs) n =
    λ l. has-passed (length rs) rs n (λ k d m. let f : nat_lt (get_or rs k d).hi y.lo ≡ true = p.0 k d (omega arith) (omega (arith, m, h)) in grind (arith, nat_tests, f, l)) in
    let w : has (drop (length rs) rs) n ≡ false = ap (λ xs. has xs n) (drop_all (length rs) rs (omega arith)) in
    let r : y.lo ≤ n → has rs n ≡ false = λ l. q l ∙ w in
    grind (arith, nat_tests, r)

-- without the ranges that end below all of another set, what both have is the same
pub none_lost : (last last' i : ℕ) (rs ys : List Range) → Ascends last 0 rs → Ascends last' 0 ys → 0 < length ys →
    IsPartitionPoint (λ (r : Range). nat_lt r.hi (get_or ys 0 zero_range).lo ≡ true) (λ (r : Range). nat_lt r.hi (get_or ys 0 zero_range).lo ≡ false) rs i →
    i ≤ length rs → (n : ℕ) → (has (drop i rs) n && has ys n) ≡ (has rs n && has ys n)
none_lost last last' i rs [] a b l p h n = absurd (omega (arith, l))
none_lost last last' i rs (y ∷ ys) a b l p h n =
    let low : n < y.lo → has (y ∷ ys) n ≡ false = λ m. has-below last' y.lo n (y ∷ ys) (omega arith, b.1, b.2, b.3) m in
    let q : y.lo ≤ n → has rs n ≡ has (drop i rs) n =
    λ m. has-passed i rs n (λ k d less. let f : nat_lt (get_or rs k d).hi y.lo ≡ true = p.0 k d (omega (arith, less, h)) less in grind (arith, nat_tests, f, m)) in
    same_where (has rs n) (has (drop i rs) n) (has (y ∷ ys) n) (λ t. let m : y.lo ≤ n = above low t in sym (q m))
  where
    above : (n < y.lo → has (y ∷ ys) n ≡ false) → has (y ∷ ys) n ≡ true → y.lo ≤ n
    above f t = grind (arith, nat_tests, f, t)

    same_where : (b c d : Bool) → (d ≡ true → c ≡ b) → (c && d) ≡ (b && d)
    same_where b c true f = let e = f refl in rw e refl
    same_where true true false f = refl
    same_where true false false f = refl
    same_where false true false f = refl
    same_where false false false f = refl

pub no_ranges : (xs rs : List Range) → length rs ≡ 0 → (n : ℕ) → (has [] n && has rs n) ≡ (has xs n && has rs n)
no_ranges xs [] e n = elim (has xs n) as (λ b. false ≡ (b && false)) [ true ↦ refl | false ↦ refl ]
no_ranges xs (r ∷ rs) e n = absurd (omega (arith, e))

-- one range more that is apart
pub apart_more : (h y r : Bool) → (h && y) ≡ false → (h && (y || r)) ≡ (h && r)
apart_more h y r e = grind (arith, e)

-- of the first set without one that it is apart from
pub apart_kept : (a b : Bool) → (a && b) ≡ false → a ≡ (a && not b)
apart_kept a b e = grind (arith, e)
