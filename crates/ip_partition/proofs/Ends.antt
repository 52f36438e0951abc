-- The boundaries of sets are where their ranges begin, and where the numbers after them do.
use Rattle.std.proofs.Common.{ℕ, zero, suc, ◌+◌, ◌-◌, ◌^◌, ◌<◌, ◌≤◌, ◌≡◌, ◌≢◌, ◌↔◌, inl, inr, List, [], ◌∷◌, false, refl, sym, ap, subst, arith, length, Contains, get_or}
use Rattle.std.specs.List.{AllByRecursion, flat_map}
use Rattle.std.proofs.lemmas.Bool.{cases_order}
use Rattle.std.proofs.lemmas.Bool.Decides.{nat_tests}
use Rattle.interval_set.specs.declared.set.Range.{Range}
use Rattle.interval_set.specs.Laws.{has-below}
use Rattle.interval_set.specs.Numbers.{has, Ascends, IsSet}
use Rattle.ip_partition.specs.Boundaries.{Ascend, ChangesAt, HasBoundaries, IsBoundary}
use Rattle.ip_partition.specs.inner.Starts.{after, ends, starts_of}
use Rattle.ip_partition.proofs.Sorted.{Added, In, all_added, contains_of, from_less, in_append, in_from, in_of}

after_cases : (top m n : ℕ) → In (after top m) n ↔ ((m < top) × (n ≡ m + 1))
after_cases top m n = elim (cases_order m top) [
  | inl e ↦ let f : after top m ≡ [] = grind (arith, nat_tests, e) in (λ i. absurd (rw f at i), λ p. absurd (omega (arith, p.0, e)))
  | inr o ↦ elim o [
    | inl l ↦ let f : after top m ≡ (m + 1) ∷ [] = grind (arith, nat_tests, l) in (
      λ i. let j : In ((m + 1) ∷ []) n = rw f at i in elim j [ inl e ↦ (l, e) | inr b ↦ absurd b ],
      λ p. rw f (inl p.1),
    )
    | inr g ↦ let f : after top m ≡ [] = grind (arith, nat_tests, g) in (λ i. absurd (rw f at i), λ p. absurd (omega (arith, p.0, g)))
  ]
]

-- a set begins or ends at an end of one of its ranges
changes : (last from : ℕ) (rs : List Range) (m n : ℕ) → n ≡ m + 1 → Ascends last from rs → In (ends last rs) n → (n ≤ last) × (from ≤ n) × (has rs m ≢ has rs n)
changes last from [] m n e a i = absurd i
changes last from (r ∷ rs) m n e a i =
    let below : (k : ℕ) → k < r.hi + 2 → has rs k ≡ false = λ k l. has-below last (r.hi + 2) k rs a.3 l in
    let low : n ≡ r.lo → (n ≤ last) × (from ≤ n) × (has (r ∷ rs) m ≢ has (r ∷ rs) n) = λ f. (
      omega (arith, f, a.1, a.2),
      omega (arith, f, a.0),
      λ q. let b = below m (omega (arith, e, f, a.1)) in grind (arith, nat_tests, b, q, e, f, a.1),
    ) in
    let high : (r.hi < last) × (n ≡ r.hi + 1) → (n ≤ last) × (from ≤ n) × (has (r ∷ rs) m ≢ has (r ∷ rs) n) = λ f. (
      omega (arith, f.0, f.1),
      omega (arith, f.1, a.0, a.1),
      λ q. let b = below n (omega (arith, f.1)) in let g = f.1 in grind (arith, nat_tests, b, q, e, g, a.1),
    ) in
    let rest : In (ends last rs) n → (n ≤ last) × (from ≤ n) × (has (r ∷ rs) m ≢ has (r ∷ rs) n) = λ j.
    let ih = changes last (r.hi + 2) rs m n e a.3 j in (
      ih.0,
      omega (arith, ih.1, a.0, a.1),
      λ q. let l = ih.1 in ih.2 (grind (arith, nat_tests, q, e, l)),
    ) in
    elim i [
      | inl f ↦ low f
      | inr j ↦ elim ((in_append (after last r.hi) (ends last rs) n).0 j) [
        | inl k ↦ high ((after_cases last r.hi n).0 k)
        | inr k ↦ rest k
      ]
    ]

-- and nowhere else
pub ends_there : (last from : ℕ) (rs : List Range) (m n : ℕ) → n ≡ m + 1 → Ascends last from rs → n ≤ last → (has rs m ≢ has rs n) → In (ends last rs) n
ends_there last from [] m n e a l c = absurd (c refl)
ends_there last from (r ∷ rs) m n e a l c =
    let later : n ≢ r.lo → n ≢ r.hi + 1 → In (ends last rs) n = λ x y.
    ends_there last (r.hi + 2) rs m n e a.3 l (λ q. c (grind (arith, nat_tests, q, e, x, y, a.1))) in
    let put : In (ends last rs) n → In (ends last (r ∷ rs)) n = λ i. inr ((in_append (after last r.hi) (ends last rs) n).1 (inr i)) in
    let high : n ≢ r.lo → In (ends last (r ∷ rs)) n = λ x. elim (cases_order n (r.hi + 1)) [
      | inl f ↦ inr ((in_append (after last r.hi) (ends last rs) n).1 (inl ((after_cases last r.hi n).1 (omega (arith, l, f), f))))
      | inr o ↦ elim o [ inl h ↦ put (later x (omega (arith, h))) | inr h ↦ put (later x (omega (arith, h))) ]
    ] in
    elim (cases_order n r.lo) [
      | inl f ↦ inl f
      | inr o ↦ elim o [ inl h ↦ high (omega (arith, h)) | inr h ↦ high (omega (arith, h)) ]
    ]

one_before : (n : ℕ) → 0 < n → n ≡ (n - 1) + 1
one_before n h = omega (arith, h)

pub change_of : (w : ℕ) (set : List Range) (n : ℕ) → IsSet w set → 0 < n → In (ends (2 ^ w - 1) set) n → ChangesAt w set n
change_of w set n s h i =
    let c = changes (2 ^ w - 1) 0 set (n - 1) n (one_before n h) s.1 i in
    (h, omega (arith, c.0, h), c.2)

pub end_of : (w : ℕ) (set : List Range) (n : ℕ) → IsSet w set → ChangesAt w set n → In (ends (2 ^ w - 1) set) n
end_of w set n s c = ends_there (2 ^ w - 1) 0 set (n - 1) n (one_before n c.0) s.1 (omega (arith, c.1)) c.2

-- the ends of each of some sets
contains_next : (x : List Range) (xs : List (List Range)) (y : List Range) → Contains xs y → Contains (x ∷ xs) y
contains_next x xs y c = (suc c.0, omega (arith, c.1), c.2)

pub each_end : (w : ℕ) (sets : List (List Range)) (n : ℕ) → AllByRecursion (IsSet w) sets → 0 < n → In (flat_map (ends (2 ^ w - 1)) sets) n → IsBoundary w (Contains sets) n
each_end w [] n a h i = absurd i
each_end w (s ∷ ss) n a h i = elim ((in_append (ends (2 ^ w - 1) s) (flat_map (ends (2 ^ w - 1)) ss) n).0 i) [
  | inl j ↦ (s, (0, omega arith, refl), change_of w s n a.0 h j)
  | inr j ↦ let b = each_end w ss n a.1 h j in (b.0, contains_next s ss b.0 b.1, b.2)
]

end_at : (w : ℕ) (sets : List (List Range)) (n k : ℕ) (set : List Range) → AllByRecursion (IsSet w) sets → k < length sets → get_or sets k set ≡ set →
    ChangesAt w set n → In (flat_map (ends (2 ^ w - 1)) sets) n
end_at w [] n k set a h e c = absurd (omega (arith, h))
end_at w (s ∷ ss) n zero set a h e c =
    let P : List Range → Type 0 = λ x. ChangesAt w x n in
    (in_append (ends (2 ^ w - 1) s) (flat_map (ends (2 ^ w - 1)) ss) n).1 (inl (end_of w s n a.0 (subst P (sym e) c)))
end_at w (s ∷ ss) n (suc k) set a h e c =
    (in_append (ends (2 ^ w - 1) s) (flat_map (ends (2 ^ w - 1)) ss) n).1 (inr (end_at w ss n k set a.1 (omega (arith, h)) e c))

-- all starts but 0 are the boundaries
pub record Begins (ns : List ℕ) : Type 0 where
  pub rest : List ℕ
  pub is : ns ≡ 0 ∷ rest
  pub ascend : Ascend 1 rest

from_zero : (ns : List ℕ) → Ascend 0 ns → In ns 0 → Begins ns
from_zero [] a i = absurd i
from_zero (m ∷ ms) a (inl e) =
    let P : ℕ → Type 0 = λ k. Ascend (k + 1) ms in
    record { rest = ms; is = ap (λ k. k ∷ ms) (sym e); ascend = subst P (sym e) a.1 }
from_zero (m ∷ ms) a (inr i) = let l = in_from (m + 1) ms 0 a.1 i in absurd (omega (arith, l))

pub starts_added : (w : ℕ) (sets : List (List Range)) → Added 0 (In (flat_map (ends (2 ^ w - 1)) sets)) (0 ∷ []) (starts_of w sets)
starts_added w sets = all_added (flat_map (ends (2 ^ w - 1)) sets) (0 ∷ []) (omega arith, tt)

pub starts_begin : (w : ℕ) (sets : List (List Range)) → Begins (starts_of w sets)
starts_begin w sets = let t = starts_added w sets in from_zero (starts_of w sets) t.ascend ((t.numbers 0).1 (inr (inl refl)))

pub is_start : (w : ℕ) (sets : List (List Range)) (n : ℕ) → AllByRecursion (IsSet w) sets → IsBoundary w (Contains sets) n → In (starts_of w sets) n
is_start w sets n a b =
    let t = starts_added w sets in
    let c = b.1 in
    (t.numbers n).1 (inl (end_at w sets n c.0 b.0 a c.1 c.2 b.2))

pub boundaries : (w : ℕ) (sets : List (List Range)) → AllByRecursion (IsSet w) sets → HasBoundaries w (Contains sets) (length (starts_of w sets) - 1)
boundaries w sets a =
    let t = starts_added w sets in
    let b = starts_begin w sets in
    let P : List ℕ → Type 0 = λ ns. (k : ℕ) → In ns k → In (starts_of w sets) k in
    let Q : List ℕ → Type 0 = λ ns. (k : ℕ) → In (starts_of w sets) k → In ns k in
    let there : (k : ℕ) → In (0 ∷ b.rest) k → In (starts_of w sets) k = subst P b.is (λ k i. i) in
    let back : (k : ℕ) → In (starts_of w sets) k → In (0 ∷ b.rest) k = subst Q b.is (λ k i. i) in
    record {
      numbers = b.rest;
      ascend = from_less 1 0 b.rest (omega arith) b.ascend;
      all = λ n. (
        λ c.
            let i = in_of b.rest n c in
            let h : 0 < n = omega (arith, in_from 1 b.rest n b.ascend i) in
            elim ((t.numbers n).0 (there n (inr i))) [
              | inl j ↦ each_end w sets n a h j
              | inr j ↦ elim j [ inl e ↦ absurd (omega (arith, e, h)) | inr x ↦ absurd x ]
            ],
        λ c.
            let h : 0 < n = c.2.0 in
            elim (back n (is_start w sets n a c)) [
              | inl e ↦ absurd (omega (arith, e, h))
              | inr i ↦ contains_of b.rest n i
            ],
      );
      count_is = omega (arith, ap length b.is);
    }
