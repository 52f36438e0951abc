-- Lists of ranges: what stands in their end, and what is left of them.
use Rattle.std.proofs.Common.{ℕ, zero, suc, ◌+◌, ◌<◌, ◌≤◌, ◌≡◌, List, [], ◌∷◌, ◌++◌, ◌||◌, refl, arith, length, get_or, drop, drop-cons, add-one}
use Rattle.interval_set.specs.declared.set.Range.{Range}
use Rattle.interval_set.specs.Numbers.{has, is_within, Ascends}
use Rattle.interval_set.specs.Ends.{next_after, last_low}

-- the zero range, which an index out of bounds would read
abbrev pub zero_range : Range
zero_range = record { lo = 0; hi = 0 }

-- where the first range begins, or past all numbers
abbrev pub first_of_ranges : ℕ → List Range → ℕ
first_of_ranges last [] = last + 2
first_of_ranges last (r ∷ rs) = r.lo

pub Ascends-from : (last from less : ℕ) (rs : List Range) → less ≤ from → Ascends last from rs → Ascends last less rs
Ascends-from last from less [] h a = tt
Ascends-from last from less (r ∷ rs) h a = (omega arith, a.1, a.2, a.3)

pub Ascends-snoc : (last from : ℕ) (rs : List Range) (r : Range) → Ascends last from rs → next_after from rs ≤ r.lo → r.lo ≤ r.hi → r.hi ≤ last →
    Ascends last from (rs ++ r ∷ [])
Ascends-snoc last from [] r a h i k = (h, i, k, tt)
Ascends-snoc last from (s ∷ rs) r a h i k = (a.0, a.1, a.2, Ascends-snoc last (s.hi + 2) rs r a.3 h i k)

pub next_after-snoc : (from : ℕ) (rs : List Range) (r : Range) → next_after from (rs ++ r ∷ []) ≡ r.hi + 2
next_after-snoc from [] r = refl
next_after-snoc from (s ∷ rs) r = next_after-snoc (s.hi + 2) rs r

pub has-snoc : (rs : List Range) (r : Range) (n : ℕ) → has (rs ++ r ∷ []) n ≡ (has rs n || is_within r n)
has-snoc [] r n = grind arith
has-snoc (s ∷ rs) r n = let ih = has-snoc rs r n in grind (arith, ih)

pub first-from : (last from : ℕ) (rs : List Range) → from ≤ last + 2 → Ascends last from rs → from ≤ first_of_ranges last rs
first-from last from [] h a = h
first-from last from (r ∷ rs) h a = a.0

pub last_low-snoc : (from : ℕ) (rs : List Range) (r : Range) → last_low from (rs ++ r ∷ []) ≡ r.lo
last_low-snoc from [] r = refl
last_low-snoc from (s ∷ rs) r = last_low-snoc s.lo rs r

-- what is known of ranges with `s` in their end
pub record EndsIn (last from : ℕ) (rs : List Range) (s : Range) : Type 0 where
  pub front : Ascends last from rs
  pub gap : next_after from rs ≤ s.lo
  pub ordered : s.lo ≤ s.hi
  pub within : s.hi ≤ last

pub Ascends-end : (last from : ℕ) (rs : List Range) (s : Range) → Ascends last from (rs ++ s ∷ []) → EndsIn last from rs s
Ascends-end last from [] s a = record { front = tt; gap = a.0; ordered = a.1; within = a.2 }
Ascends-end last from (r ∷ rs) s a =
    let e = Ascends-end last (r.hi + 2) rs s a.3 in
    record { front = (a.0, a.1, a.2, e.front); gap = e.gap; ordered = e.ordered; within = e.within }

pub Ascends-drop : (last from i : ℕ) (rs : List Range) → Ascends last from rs → Ascends last 0 (drop i rs)
Ascends-drop last from zero [] a = tt
Ascends-drop last from (suc i) [] a = tt
Ascends-drop last from zero (r ∷ rs) a = (omega arith, a.1, a.2, a.3)
Ascends-drop last from (suc i) (r ∷ rs) a = Ascends-drop last (r.hi + 2) i rs a.3

-- what is left from an index on
pub left_from : (rs : List Range) (i : ℕ) → i < length rs → drop i rs ≡ get_or rs i zero_range ∷ drop (i + 1) rs
left_from rs i h = rw add-one (drop-cons rs i zero_range h)
