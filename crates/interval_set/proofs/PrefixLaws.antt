-- The range of a prefix.
use Rattle.std.proofs.Common.{List, [], ◌∷◌, ℕ, suc, ◌+◌, ◌-◌, ◌*◌, ◌/◌, ◌%◌, ◌^◌, ◌==◌, ◌<◌, ◌≤◌, ◌≡◌, ◌&&◌, inl, inr, false, nat_le, sym, ◌∙◌, ap, arith, bit_and, div-mul-le_self, mul-le-mul_right, div-lt_iff_lt-mul}
use Rattle.std.proofs.Math.Nat.{lt-div-mul-add, div-eq_of_lt-le}
use Rattle.std.proofs.Math.Pow.{pow_mono, pow-lt}
use Rattle.std.proofs.lemmas.Nat.{pow_pos, pow-add, and_mask, shr_split, leading_length, shl-shr}
use Rattle.std.proofs.lemmas.Bool.Decides.{nat_tests}
use Rattle.std.proofs.lemmas.Nat.{pow_pos}
use lib.Count.{count_leading_zeros}
use Rattle.interval_set.specs.declared.set.Range.{Range}
use Rattle.interval_set.specs.Numbers.{has, is_within, IsWidth}
use Rattle.interval_set.specs.Prefix.{in_prefix, prefix_range, IsPrefix}

-- a number of the block has its quotient, and no other number has
block_quotient : (v n s : ℕ) → 0 < s → v / s * s ≤ n → n ≤ v / s * s + (s - 1) → n / s ≡ v / s
block_quotient v n s p l h = div-eq_of_lt-le s l (let e : (v / s + 1) * s ≡ v / s * s + s = grind arith in omega (arith, p, h, e))

block_low : (v n s : ℕ) → n / s ≡ v / s → v / s * s ≤ n
block_low v n s e = let f : n / s * s ≡ v / s * s = ap (λ q. q * s) e in omega (arith, f, div-mul-le_self n s)

block_high : (v n s : ℕ) → 0 < s → n / s ≡ v / s → n ≤ v / s * s + (s - 1)
block_high v n s p e = let f : n / s * s ≡ v / s * s = ap (λ q. q * s) e in omega (arith, f, p, lt-div-mul-add {a = n} {b = s} p)

block : (v n s : ℕ) → 0 < s → (nat_le (v / s * s) n && nat_le n (v / s * s + (s - 1))) ≡ (n / s == v / s)
block v n s p =
    let f : v / s * s ≤ n → n ≤ v / s * s + (s - 1) → n / s ≡ v / s = λ l h. block_quotient v n s p l h in
    let g : n / s ≡ v / s → v / s * s ≤ n = λ e. block_low v n s e in
    let h : n / s ≡ v / s → n ≤ v / s * s + (s - 1) = λ e. block_high v n s p e in
    grind (arith, nat_tests, f, g, h)

-- the blocks of a size that divides the whole stay below it
block_top : (v m s : ℕ) → 0 < s → v < m * s → v / s * s + s ≤ m * s
block_top v m s p h =
    let q : v / s < m = (div-lt_iff_lt-mul p).1 h in
    let e : (v / s + 1) * s ≡ v / s * s + s = grind arith in
    let f : (v / s + 1) * s ≤ m * s = mul-le-mul_right s (omega (arith, q)) in
    omega (arith, e, f)

-- a value without its low bits
pub low_is : (value k free : ℕ) → free ≡ 2 ^ k - 1 → value - bit_and value free ≡ value / 2 ^ k * 2 ^ k
low_is value k free e =
    let f : bit_and value free ≡ value % 2 ^ k = ap (λ x. bit_and value x) e ∙ and_mask value k in
    omega (arith, f, shr_split value k)

module _ (w value len : ℕ) (fits : len ≤ w) where
  whole : 2 ^ w ≡ 2 ^ len * 2 ^ (w - len)
  whole = let e : len + (w - len) ≡ w = omega (arith, fits) in ap (λ k. 2 ^ k) (sym e) ∙ pow-add 2 len (w - len)

  pub prefix_top : value ≤ 2 ^ w - 1 → value / 2 ^ (w - len) * 2 ^ (w - len) + 2 ^ (w - len) ≤ 2 ^ w
  prefix_top h =
      let v : value < 2 ^ len * 2 ^ (w - len) = omega (arith, h, whole, pow_pos w) in
      omega (arith, whole, block_top value (2 ^ len) (2 ^ (w - len)) (pow_pos (w - len)) v)

  pub prefix_numbers : value ≤ 2 ^ w - 1 → (n : ℕ) → is_within (prefix_range w value len) n ≡ in_prefix w value len n
  prefix_numbers h n =
      let t = prefix_top h in
      let b = block value n (2 ^ (w - len)) (pow_pos (w - len)) in
      let s = pow_pos (w - len) in
      grind (arith, nat_tests, t, b, s)

pub width_le : (w : ℕ) → IsWidth w → w ≤ 128
width_le w h = elim h [ inl e ↦ omega (arith, e) | inr k ↦ elim k [ inl e ↦ omega (arith, e) | inr k ↦ elim k [ inl e ↦ omega (arith, e) | inr e ↦ omega (arith, e) ] ] ]

-- a range of a power of two of numbers
pub sized : (k m : ℕ) → 2 ^ k - 1 < 2 ^ m → 2 ^ m ≤ 2 * (2 ^ k - 1) + 1 → k ≡ m
sized k m l h =
    let p = pow_pos k in
    let below : k < m → 2 ^ suc k ≤ 2 ^ m = λ i. pow_mono (omega (arith, i)) in
    let above : m < k → 2 ^ m < 2 ^ k = λ i. pow-lt i in
    let double : 2 ^ suc k ≡ 2 * 2 ^ k = grind arith in
    grind (arith, l, h, p, below, above, double)

-- the prefix of a range's own beginning
pub prefix_begins : (w : ℕ) (range : Range) (len : ℕ) → IsPrefix w range len → prefix_range w range.lo len ≡ range
prefix_begins w range len p =
    let e : p.1.0 / 2 ^ (w - len) * 2 ^ (w - len) ≡ range.lo = ap (λ (r : Range). r.lo) p.1.1 in
    let f : range.lo / 2 ^ (w - len) ≡ p.1.0 / 2 ^ (w - len) = ap (λ x. x / 2 ^ (w - len)) (sym e) ∙ shl-shr (p.1.0 / 2 ^ (w - len)) (w - len) in
    ap (λ (q : ℕ). let r : Range = record { lo = q * 2 ^ (w - len); hi = q * 2 ^ (w - len) + (2 ^ (w - len) - 1) } in r) f ∙ p.1.1

module _ (w lo hi : ℕ) (width : IsWidth w) (ordered : lo ≤ hi) (top : hi ≤ 2 ^ w - 1) where
  fits128 : hi - lo < 2 ^ 128
  fits128 = let h : 2 ^ w ≤ 2 ^ 128 = pow_mono (width_le w width) in omega (arith, top, h, pow_pos w)

  -- no more bits than the width
  pub span_fits : 128 - count_leading_zeros 128 (hi - lo) ≤ w
  span_fits =
      let l = leading_length 128 (hi - lo) fits128 in
      let p = pow_pos w in
      let over : w < l.0 → 2 ^ suc w ≤ 2 ^ l.0 = λ i. pow_mono (omega (arith, i)) in
      let double : 2 ^ suc w ≡ 2 * 2 ^ w = grind arith in
      let m : l.0 ≤ w = grind (arith, top, l.3, p, over, double) in
      omega (arith, l.1, m)

  -- the range of a prefix tells its length
  pub span_of_prefix : (len : ℕ) → IsPrefix w (record { lo = lo; hi = hi }) len → w - (128 - count_leading_zeros 128 (hi - lo)) ≡ len
  span_of_prefix len p =
      let l = leading_length 128 (hi - lo) fits128 in
      let e : p.1.0 / 2 ^ (w - len) * 2 ^ (w - len) ≡ lo = ap (λ (r : Range). r.lo) p.1.1 in
      let f : p.1.0 / 2 ^ (w - len) * 2 ^ (w - len) + (2 ^ (w - len) - 1) ≡ hi = ap (λ (r : Range). r.hi) p.1.1 in
      let span : hi - lo ≡ 2 ^ (w - len) - 1 = omega (arith, e, f) in
      let k : w - len ≡ l.0 = sized (w - len) l.0 (omega (arith, span, l.2)) (omega (arith, span, l.3)) in
      omega (arith, k, l.1, p.0)

pub differ : (a b : Range) → a ≡ b → false ≡ ((a.lo == b.lo) && (a.hi == b.hi)) → ⊥
differ a b e f =
    let g : a.lo ≡ b.lo = ap (λ (r : Range). r.lo) e in
    let h : a.hi ≡ b.hi = ap (λ (r : Range). r.hi) e in
    grind (arith, nat_tests, f, g, h)

-- the range that holds a prefix is within the width
pub prefix_ordered : (w value len : ℕ) (range : Range) → range ≡ prefix_range w value len → range.lo ≤ range.hi
prefix_ordered w value len range e =
    let f : range.lo ≡ value / 2 ^ (w - len) * 2 ^ (w - len) = ap (λ (r : Range). r.lo) e in
    let g : range.hi ≡ value / 2 ^ (w - len) * 2 ^ (w - len) + (2 ^ (w - len) - 1) = ap (λ (r : Range). r.hi) e in
    omega (arith, f, g)

pub prefix_within : (w value len : ℕ) (range : Range) → len ≤ w → value ≤ 2 ^ w - 1 → range ≡ prefix_range w value len → range.hi ≤ 2 ^ w - 1
prefix_within w value len range l v e =
    let g : range.hi ≡ value / 2 ^ (w - len) * 2 ^ (w - len) + (2 ^ (w - len) - 1) = ap (λ (r : Range). r.hi) e in
    omega (arith, g, prefix_top w value len l v, pow_pos (w - len))

pub prefix_has : (w value len : ℕ) (range : Range) (rs : List Range) → len ≤ w → value ≤ 2 ^ w - 1 → range ≡ prefix_range w value len → rs ≡ range ∷ [] →
    (n : ℕ) → has rs n ≡ in_prefix w value len n
prefix_has w value len range rs l v e f n =
    let g : has rs n ≡ has (prefix_range w value len ∷ []) n = ap (λ (x : List Range). has x n) (f ∙ ap (λ (r : Range). r ∷ []) e) in
    let h : has (prefix_range w value len ∷ []) n ≡ is_within (prefix_range w value len) n = grind arith in
    g ∙ h ∙ prefix_numbers w value len l v n
