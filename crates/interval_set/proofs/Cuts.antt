-- The state of the loops that take one set from another.
use Rattle.std.proofs.Common.{ℕ, ◌+◌, ◌-◌, ◌^◌, ◌<◌, ◌≤◌, ◌≡◌, List, [], ◌∷◌, ◌++◌, false, nat_le, not, ◌&&◌, ◌||◌, ◌⊎◌, inl, inr, refl, sym, max, arith, length, get_or, drop, subst}
use Rattle.std.proofs.lemmas.List.{drop_all}
use Rattle.std.proofs.lemmas.Bool.Decides.{nat_tests}
use Rattle.interval_set.specs.declared.set.Range.{Range}
use Rattle.interval_set.specs.Numbers.{has, is_within, Ascends, IsSet}
use Rattle.interval_set.specs.Ends.{next_after}
use Rattle.interval_set.specs.Laws.{has-below}
use Rattle.interval_set.proofs.Lists.{Ascends-from, Ascends-snoc, next_after-snoc, has-snoc, left_from, zero_range}

-- what is left of the range `x` begins at `lo`, `ys` is what is left of `zs`, and `out` is `old` with the numbers of `x` below `lo` that aren't in `zs`
pub record Cutting (w : ℕ) (old : List Range) (x : Range) (zs ys : List Range) (lo : ℕ) (out : List Range) : Type 0 where
  pub numbers : (n : ℕ) → (has out n || ((nat_le lo n && nat_le n x.hi) && not (has ys n))) ≡ (has old n || (is_within x n && not (has zs n)))
  pub above : (n : ℕ) → x.hi < n → has ys n ≡ has zs n
  pub set : IsSet w out
  pub left : Ascends (2 ^ w - 1) 0 ys
  pub gap : next_after 0 out ≤ lo
  pub low : lo ≤ x.hi
  pub within : x.hi ≤ 2 ^ w - 1

-- the whole of `x` is done, and what is left of `zs` is `ys`
pub record Cut (w : ℕ) (old : List Range) (x : Range) (zs ys : List Range) (out : List Range) : Type 0 where
  pub numbers : (n : ℕ) → has out n ≡ (has old n || (is_within x n && not (has zs n)))
  pub above : (n : ℕ) → x.hi < n → has ys n ≡ has zs n
  pub set : IsSet w out
  pub gap : next_after 0 out ≤ x.hi + 2

pub uncut : (w : ℕ) (old : List Range) (x : Range) (zs : List Range) → IsSet w old → Ascends (2 ^ w - 1) 0 zs → next_after 0 old ≤ x.lo → x.lo ≤ x.hi → x.hi ≤ 2 ^ w - 1 →
    Cutting w old x zs zs x.lo old
uncut w old x zs s z g o i = record { numbers = λ n. refl; above = λ n h. refl; set = s; left = z; gap = g; low = o; within = i }

-- what `out` becomes at the range `y`
abbrev pub PutBefore : ℕ → Range → List Range → List Range → Type 0
PutBefore lo y out next = ((lo < y.lo) × (next ≡ out ++ record { lo = lo; hi = y.lo - 1 } ∷ [])) ⊎ ((y.lo ≤ lo) × (next ≡ out))

-- what is known once the numbers before `y` are done
pub record Passed (w : ℕ) (old : List Range) (x : Range) (zs : List Range) (y : Range) (ys : List Range) (lo : ℕ) (next : List Range) : Type 0 where
  pub numbers : (n : ℕ) → (has next n || ((nat_le (max lo (y.hi + 1)) n && nat_le n x.hi) && not (has ys n))) ≡ (has old n || (is_within x n && not (has zs n)))
  pub set : IsSet w next
  pub gap : next_after 0 next ≤ max lo (y.lo + 1)

pub passed : (w : ℕ) (old : List Range) (x : Range) (zs : List Range) (y : Range) (ys : List Range) (lo : ℕ) (out next : List Range) → Cutting w old x zs (y ∷ ys) lo out → y.lo ≤ x.hi →
    PutBefore lo y out next → Passed w old x zs y ys lo next
passed w old x zs y ys lo out next c h p =
    let low : (n : ℕ) → n < y.hi + 2 → has ys n ≡ false = λ n l. has-below (2 ^ w - 1) (y.hi + 2) n ys c.left.3 l in
    elim p [
      | inl q ↦
          let r : Range = record { lo = lo; hi = y.lo - 1 } in
          rw q.1 (record {
            numbers = λ n. let e = c.numbers n in let f = low n in let k = has-snoc out r n in grind (arith, nat_tests, e, f, k, q.0, h);
            set = (c.set.0, Ascends-snoc (2 ^ w - 1) 0 out r c.set.1 c.gap (omega (arith, q.0)) (omega (arith, h, c.within)));
            gap = omega (arith, next_after-snoc 0 out r, q.0);
          })
      | inr q ↦ rw q.1 (record {
        numbers = λ n. let e = c.numbers n in let f = low n in grind (arith, nat_tests, e, f, q.0, h);
        set = c.set;
        gap = omega (arith, c.gap);
      })
    ]

-- the range `y` ends within `x`
pub cut_on : (w : ℕ) (old : List Range) (x : Range) (zs : List Range) (y : Range) (ys : List Range) (lo : ℕ) (out next : List Range) → Cutting w old x zs (y ∷ ys) lo out → y.lo ≤ x.hi →
    PutBefore lo y out next → y.hi < x.hi → Cutting w old x zs ys (max lo (y.hi + 1)) next
cut_on w old x zs y ys lo out next c h p e =
    let k = passed w old x zs y ys lo out next c h p in
    record {
      numbers = k.numbers;
      above = λ n l. let f = c.above n l in grind (arith, nat_tests, f, e, l);
      set = k.set;
      left = Ascends-from (2 ^ w - 1) (y.hi + 2) 0 ys (omega arith) c.left.3;
      gap = omega (arith, k.gap, c.left.1);
      low = omega (arith, c.low, e);
      within = c.within;
    }

-- the range `y` goes on to the end of `x`, or past it
pub cut_off : (w : ℕ) (old : List Range) (x : Range) (zs : List Range) (y : Range) (ys : List Range) (lo : ℕ) (out next : List Range) → Cutting w old x zs (y ∷ ys) lo out → y.lo ≤ x.hi →
    PutBefore lo y out next → x.hi ≤ y.hi → Cut w old x zs (y ∷ ys) next
cut_off w old x zs y ys lo out next c h p e =
    let k = passed w old x zs y ys lo out next c h p in
    record {
      numbers = λ n. let f = k.numbers n in grind (arith, nat_tests, f, e);
      above = c.above;
      set = k.set;
      gap = omega (arith, k.gap, c.low, h);
    }

-- no more of `zs` reaches `x`
pub cut_done : (w : ℕ) (old : List Range) (x : Range) (zs ys : List Range) (lo : ℕ) (out : List Range) → Cutting w old x zs ys lo out → Ascends (2 ^ w - 1) (x.hi + 1) ys →
    Cut w old x zs ys (out ++ record { lo = lo; hi = x.hi } ∷ [])
cut_done w old x zs ys lo out c a =
    let r : Range = record { lo = lo; hi = x.hi } in
    record {
      numbers = λ n. let e = c.numbers n in let f : n < x.hi + 1 → has ys n ≡ false = λ l. has-below (2 ^ w - 1) (x.hi + 1) n ys a l in let k = has-snoc out r n in grind (arith, nat_tests, e, f, k);
      above = c.above;
      set = (c.set.0, Ascends-snoc (2 ^ w - 1) 0 out r c.set.1 c.gap c.low c.within);
      gap = omega (arith, next_after-snoc 0 out r);
    }

-- `xs` and `ys` are what is left of `a` and `b`, and `out` is what was kept of `a`
pub record Taken (w : ℕ) (a b xs ys out : List Range) : Type 0 where
  pub numbers : (n : ℕ) → (has out n || (has xs n && not (has ys n))) ≡ (has a n && not (has b n))
  pub set : IsSet w out
  pub left : Ascends (2 ^ w - 1) (next_after 0 out) xs

pub nothing_taken : (w : ℕ) (a b : List Range) → IsSet w a → Taken w a b a b []
nothing_taken w a b s = record { numbers = λ n. refl; set = (s.0, tt); left = s.1 }

pub one_taken : (w : ℕ) (a b : List Range) (x : Range) (xs zs ys out next : List Range) → Taken w a b (x ∷ xs) zs out → Cut w out x zs ys next → Taken w a b xs ys next
one_taken w a b x xs zs ys out next t c = record {
  numbers = λ n.
      let low : n < x.hi + 2 → has xs n ≡ false = λ l. has-below (2 ^ w - 1) (x.hi + 2) n xs t.left.3 l in
      let e = t.numbers n in
      let f = c.numbers n in
      let k = c.above n in
      grind (arith, nat_tests, e, f, k, low);
  set = c.set;
  left = Ascends-from (2 ^ w - 1) (x.hi + 2) (next_after 0 next) xs c.gap t.left.3;
}

-- the same at an index of `b`
module _ (w : ℕ) (old : List Range) (x : Range) (zs b : List Range) (j lo : ℕ) (out next : List Range) (l : j < length b) (c : Cutting w old x zs (drop j b) lo out) where
  opened : Cutting w old x zs (get_or b j zero_range ∷ drop (j + 1) b) lo out
  opened = let e = left_from b j l in rw (← e) c

  pub cut_on_at : (get_or b j zero_range).lo ≤ x.hi → PutBefore lo (get_or b j zero_range) out next → (get_or b j zero_range).hi < x.hi →
      Cutting w old x zs (drop (j + 1) b) (max lo ((get_or b j zero_range).hi + 1)) next
  cut_on_at h p e = cut_on w old x zs (get_or b j zero_range) (drop (j + 1) b) lo out next opened h p e

  pub cut_off_at : (get_or b j zero_range).lo ≤ x.hi → PutBefore lo (get_or b j zero_range) out next → x.hi ≤ (get_or b j zero_range).hi → Cut w old x zs (drop j b) next
  cut_off_at h p e = let f = left_from b j l in rw f (cut_off w old x zs (get_or b j zero_range) (drop (j + 1) b) lo out next opened h p e)

-- nothing of `b` from the index on reaches down to `x`
pub done_at : (w end j : ℕ) (b : List Range) → Ascends (2 ^ w - 1) 0 (drop j b) → j < length b → end < (get_or b j zero_range).lo → Ascends (2 ^ w - 1) (end + 1) (drop j b)
done_at w end j b a l h =
    let e = left_from b j l in
    let P : List Range → Type 0 = λ rs. Ascends (2 ^ w - 1) 0 rs in
    let Q : List Range → Type 0 = λ rs. Ascends (2 ^ w - 1) (end + 1) rs in
    let k = subst P e a in
    subst Q (sym e) (omega (arith, h), k.1, k.2, k.3)

pub done_past : (w end j : ℕ) (b : List Range) → length b ≤ j → Ascends (2 ^ w - 1) (end + 1) (drop j b)
done_past w end j b l = let e : drop j b ≡ [] = drop_all j b l in rw e tt

-- the range at an index of `a` is done
pub one_taken_at : (w : ℕ) (a b : List Range) (i : ℕ) (zs ys out next : List Range) → i < length a → Taken w a b (drop i a) zs out → Cut w out (get_or a i zero_range) zs ys next →
    Taken w a b (drop (i + 1) a) ys next
one_taken_at w a b i zs ys out next l t c =
    let e = left_from a i l in
    let u : Taken w a b (get_or a i zero_range ∷ drop (i + 1) a) zs out = rw (← e) t in
    one_taken w a b (get_or a i zero_range) (drop (i + 1) a) zs ys out next u c
