-- The state of the loops that unite two sets.
use Rattle.std.proofs.Common.{ℕ, ◌+◌, ◌-◌, ◌^◌, ◌<◌, ◌≤◌, ◌≡◌, List, [], ◌∷◌, ◌++◌, ◌||◌, refl, max, arith, length, get_or, drop}
use Rattle.std.proofs.lemmas.List.{nil_from_length}
use Rattle.std.proofs.lemmas.Bool.Decides.{nat_tests}
use Rattle.interval_set.specs.declared.set.Range.{Range}
use Rattle.interval_set.specs.Numbers.{has, is_within, Ascends, IsSet}
use Rattle.interval_set.specs.Ends.{last_low, BeginsFrom}
use Rattle.interval_set.proofs.Lists.{Ascends-from, Ascends-snoc, Ascends-end, next_after-snoc, last_low-snoc, has-snoc, left_from, zero_range}

-- `new` has the numbers of `old` and of the range, which begins where the last of `old` does, or above
pub record Joined (w : ℕ) (old : List Range) (r : Range) (new : List Range) : Type 0 where
  pub numbers : (n : ℕ) → has new n ≡ (has old n || is_within r n)
  pub set : IsSet w new
  pub last : last_low 0 new ≤ r.lo

pub join_first : (w : ℕ) (old left : List Range) (r : Range) (new : List Range) → IsSet w old → length old ≡ 0 → length left ≡ 0 → r.lo ≤ r.hi → r.hi ≤ 2 ^ w - 1 → new ≡ left ++ r ∷ [] →
    Joined w old r new
join_first w old left r new s e l o i f =
    let e' = nil_from_length old e in
    let l' = nil_from_length left l in
    rw (f, l', e') (record { numbers = λ n. grind arith; set = (s.0, (omega arith, o, i, tt)); last = omega arith })

pub join_apart : (w : ℕ) (old : List Range) (r : Range) (rs : List Range) (s : Range) (new : List Range) → IsSet w old → old ≡ rs ++ s ∷ [] → s.hi + 1 < r.lo → r.lo ≤ r.hi →
    r.hi ≤ 2 ^ w - 1 → new ≡ (rs ++ s ∷ []) ++ r ∷ [] → Joined w old r new
join_apart w old r rs s new t e a o i f =
    let set : IsSet w (rs ++ s ∷ []) = rw e at t in
    rw (e, f) (record {
      numbers = λ n. has-snoc (rs ++ s ∷ []) r n;
      set = (t.0, Ascends-snoc (2 ^ w - 1) 0 (rs ++ s ∷ []) r set.1 (omega (arith, next_after-snoc 0 rs s, a)) o i);
      last = omega (arith, last_low-snoc 0 (rs ++ s ∷ []) r);
    })

pub join_touching : (w : ℕ) (old : List Range) (r : Range) (rs : List Range) (s : Range) (new : List Range) → IsSet w old → last_low 0 old ≤ r.lo → old ≡ rs ++ s ∷ [] → r.lo ≤ s.hi + 1 →
    r.lo ≤ r.hi → r.hi ≤ 2 ^ w - 1 → new ≡ rs ++ record { lo = s.lo; hi = max s.hi r.hi } ∷ [] → Joined w old r new
join_touching w old r rs s new t l e a o i f =
    let set : IsSet w (rs ++ s ∷ []) = rw e at t in
    let low : last_low 0 (rs ++ s ∷ []) ≤ r.lo = rw e at l in
    let u : Range = record { lo = s.lo; hi = max s.hi r.hi } in
    let k = Ascends-end (2 ^ w - 1) 0 rs s set.1 in
    let q : s.lo ≤ r.lo = omega (arith, last_low-snoc 0 rs s, low) in
    rw (e, f) (record {
      numbers = λ n. grind (arith, nat_tests, has-snoc rs s n, has-snoc rs u n, q, a, o, k.ordered);
      set = (t.0, Ascends-snoc (2 ^ w - 1) 0 rs u k.front k.gap (omega (arith, k.ordered)) (omega (arith, k.within, i)));
      last = omega (arith, last_low-snoc 0 rs u, q);
    })

-- `xs` and `ys` are what is left of `a` and `b`, and `out` is what was joined
pub record United (w : ℕ) (a b xs ys out : List Range) : Type 0 where
  pub numbers : (n : ℕ) → (has out n || (has xs n || has ys n)) ≡ (has a n || has b n)
  pub set : IsSet w out
  pub left : Ascends (2 ^ w - 1) 0 xs
  pub right : Ascends (2 ^ w - 1) 0 ys
  pub left_later : BeginsFrom (last_low 0 out) xs
  pub right_later : BeginsFrom (last_low 0 out) ys

from_zero : (rs : List Range) → BeginsFrom 0 rs
from_zero [] = tt
from_zero (r ∷ rs) = omega arith

pub nothing_joined : (w : ℕ) (a b : List Range) → IsSet w a → IsSet w b → United w a b a b []
nothing_joined w a b s t = record {
  numbers = λ n. refl;
  set = (s.0, tt);
  left = s.1;
  right = t.1;
  left_later = from_zero a;
  right_later = from_zero b;
}

-- a bound that is lower
from_less : (low less : ℕ) (rs : List Range) → less ≤ low → BeginsFrom low rs → BeginsFrom less rs
from_less low less [] h b = tt
from_less low less (r ∷ rs) h b = omega (arith, h, b)

from_after : (last low end : ℕ) (rs : List Range) → low ≤ end → Ascends last (end + 2) rs → BeginsFrom low rs
from_after last low end [] h a = tt
from_after last low end (r ∷ rs) h a = omega (arith, h, a.0)

-- the order of the two doesn't matter
pub turned_round : (w : ℕ) (a b xs ys out : List Range) → United w a b xs ys out → United w b a ys xs out
turned_round w a b xs ys out u = record {
  numbers = λ n. let e = u.numbers n in grind (arith, e);
  set = u.set;
  left = u.right;
  right = u.left;
  left_later = u.right_later;
  right_later = u.left_later;
}

-- one range of the left list is joined
pub left_joined : (w : ℕ) (a b xs ys out : List Range) (x : Range) (new : List Range) → United w a b (x ∷ xs) ys out → BeginsFrom x.lo ys → Joined w out x new → United w a b xs ys new
left_joined w a b xs ys out x new u h j = record {
  numbers = λ n. let e = u.numbers n in let f = j.numbers n in grind (arith, e, f);
  set = j.set;
  left = Ascends-from (2 ^ w - 1) (x.hi + 2) 0 xs (omega arith) u.left.3;
  right = u.right;
  left_later = from_after (2 ^ w - 1) (last_low 0 new) x.hi xs (omega (arith, j.last, u.left.1)) u.left.3;
  right_later = from_less x.lo (last_low 0 new) ys j.last h;
}

-- the range at an index of the left list is joined
pub left_joined_at : (w : ℕ) (a b rs : List Range) (i : ℕ) (ys out new : List Range) → i < length rs → United w a b (drop i rs) ys out → BeginsFrom (get_or rs i zero_range).lo ys →
    Joined w out (get_or rs i zero_range) new → United w a b (drop (i + 1) rs) ys new
left_joined_at w a b rs i ys out new l u h j =
    let e = left_from rs i l in
    let v : United w a b (get_or rs i zero_range ∷ drop (i + 1) rs) ys out = rw (← e) u in
    left_joined w a b (drop (i + 1) rs) ys out (get_or rs i zero_range) new v h j

begins_at : (low : ℕ) (rs : List Range) (i : ℕ) → i < length rs → low ≤ (get_or rs i zero_range).lo → BeginsFrom low (drop i rs)
begins_at low rs i l h =
    let e = left_from rs i l in
    let b : BeginsFrom low (get_or rs i zero_range ∷ drop (i + 1) rs) = h in
    rw e b

-- a turn that joins the left range
pub left_turn : (w : ℕ) (a b : List Range) (i j : ℕ) (out new : List Range) → i < length a → j < length b → United w a b (drop i a) (drop j b) out →
    (get_or a i zero_range).lo ≤ (get_or b j zero_range).lo → Joined w out (get_or a i zero_range) new → United w a b (drop (i + 1) a) (drop j b) new
left_turn w a b i j out new k l u h joined = left_joined_at w a b a i (drop j b) out new k u (begins_at _ b j l h) joined

-- a turn that joins the right range
pub right_turn : (w : ℕ) (a b : List Range) (i j : ℕ) (out new : List Range) → i < length a → j < length b → United w a b (drop i a) (drop j b) out →
    (get_or b j zero_range).lo ≤ (get_or a i zero_range).lo → Joined w out (get_or b j zero_range) new → United w a b (drop i a) (drop (j + 1) b) new
right_turn w a b i j out new k l u h joined =
    turned_round w b a (drop (j + 1) b) (drop i a) new (left_turn w b a j i out new l k (turned_round w a b (drop i a) (drop j b) out u) h joined)
