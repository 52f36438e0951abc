-- Numbers that ascend.
use Rattle.std.proofs.Common.{ℕ, zero, suc, ◌+◌, ◌<◌, ◌≤◌, ◌≡◌, ◌↔◌, ◌⊎◌, inl, inr, List, [], ◌∷◌, ◌++◌, refl, sym, ◌∙◌, ap, subst, arith, length, get_or, Contains}
use Rattle.std.specs.List.{insert}
use Rattle.std.specs.List.Sorted.{IsNonDecreasingBy}
use Rattle.std.proofs.lemmas.Bool.{cases_order}
use Rattle.std.proofs.lemmas.Bool.Decides.{nat_tests}
use Rattle.ip_partition.specs.Boundaries.{Ascend}
use Rattle.ip_partition.specs.inner.Starts.{with_number, with_numbers}

-- the number is one of the list
abbrev pub In : List ℕ → ℕ → Type 0
In [] n = ⊥
In (m ∷ ms) n = (n ≡ m) ⊎ In ms n

in_at : (ns : List ℕ) (n k : ℕ) → k < length ns → get_or ns k n ≡ n → In ns n
in_at [] n k h e = absurd (omega (arith, h))
in_at (m ∷ ms) n zero h e = inl (sym e)
in_at (m ∷ ms) n (suc k) h e = inr (in_at ms n k (omega (arith, h)) e)

pub in_of : (ns : List ℕ) (n : ℕ) → Contains ns n → In ns n
in_of ns n c = in_at ns n c.0 c.1 c.2

pub contains_of : (ns : List ℕ) (n : ℕ) → In ns n → Contains ns n
contains_of [] n i = absurd i
contains_of (m ∷ ms) n (inl e) = (0, omega arith, sym e)
contains_of (m ∷ ms) n (inr i) = let c = contains_of ms n i in (suc c.0, omega (arith, c.1), c.2)

pub in_append : (xs ys : List ℕ) (n : ℕ) → In (xs ++ ys) n ↔ (In xs n ⊎ In ys n)
in_append [] ys n = (λ i. inr i, λ i. elim i [ inl a ↦ absurd a | inr b ↦ b ])
in_append (x ∷ xs) ys n =
    let ih = in_append xs ys n in (
      λ i. elim i [ inl e ↦ inl (inl e) | inr j ↦ elim (ih.0 j) [ inl a ↦ inl (inr a) | inr b ↦ inr b ] ],
      λ i. elim i [ inl a ↦ elim a [ inl e ↦ inl e | inr j ↦ inr (ih.1 (inl j)) ] | inr b ↦ inr (ih.1 (inr b)) ],
    )

pub from_less : (from less : ℕ) (ns : List ℕ) → less ≤ from → Ascend from ns → Ascend less ns
from_less from less [] h a = tt
from_less from less (n ∷ ns) h a = (omega (arith, h, a.0), a.1)

pub in_from : (from : ℕ) (ns : List ℕ) (n : ℕ) → Ascend from ns → In ns n → from ≤ n
in_from from [] n a i = absurd i
in_from from (m ∷ ms) n a (inl e) = omega (arith, e, a.0)
in_from from (m ∷ ms) n a (inr i) = let l = in_from (m + 1) ms n a.1 i in omega (arith, l, a.0)

with_above : (n m : ℕ) (ms : List ℕ) → m < n → with_number n (m ∷ ms) ≡ m ∷ with_number n ms
with_above n m ms h = grind (arith, nat_tests, h)

with_same : (n m : ℕ) (ms : List ℕ) → m ≡ n → with_number n (m ∷ ms) ≡ m ∷ ms
with_same n m ms h = grind (arith, nat_tests, h)

with_below : (n m : ℕ) (ms : List ℕ) → n < m → with_number n (m ∷ ms) ≡ n ∷ m ∷ ms
with_below n m ms h = grind (arith, nat_tests, h)

-- `new` are the numbers `ns` and these more
pub record Added (from : ℕ) (More : ℕ → Type 0) (ns new : List ℕ) : Type 0 where
  pub ascend : Ascend from new
  pub numbers : (k : ℕ) → In new k ↔ (More k ⊎ In ns k)
  pub longer : length ns ≤ length new

pub added : (from n : ℕ) (ns : List ℕ) → Ascend from ns → from ≤ n → Added from (λ k. k ≡ n) ns (with_number n ns)
added from n [] a h = record { ascend = (h, tt); numbers = λ k. (λ i. i, λ i. i); longer = omega arith }
added from n (m ∷ ms) a h = elim (cases_order m n) [
  | inl e ↦ let P : List ℕ → Type 0 = λ new. Added from (λ k. k ≡ n) (m ∷ ms) new in subst P (sym (with_same n m ms e)) (record {
    ascend = a;
    numbers = λ k. (λ i. inr i, λ i. elim i [ inl f ↦ inl (f ∙ sym e) | inr j ↦ j ]);
    longer = omega arith;
  })
  | inr o ↦ elim o [
    | inl l ↦
        let t = added (m + 1) n ms a.1 (omega (arith, l)) in
        let P : List ℕ → Type 0 = λ new. Added from (λ k. k ≡ n) (m ∷ ms) new in subst P (sym (with_above n m ms l)) (record {
          ascend = (a.0, t.ascend);
          numbers = λ k. let w = t.numbers k in (
            λ i. elim i [ inl e ↦ inr (inl e) | inr j ↦ elim (w.0 j) [ inl e ↦ inl e | inr f ↦ inr (inr f) ] ],
            λ i. elim i [ inl e ↦ inr (w.1 (inl e)) | inr j ↦ elim j [ inl e ↦ inl e | inr f ↦ inr (w.1 (inr f)) ] ],
          );
          longer = omega (arith, t.longer);
        })
    | inr g ↦ let P : List ℕ → Type 0 = λ new. Added from (λ k. k ≡ n) (m ∷ ms) new in subst P (sym (with_below n m ms g)) (record {
      ascend = (h, (omega (arith, g), a.1));
      numbers = λ k. (λ i. i, λ i. i);
      longer = omega arith;
    })
  ]
]

pub all_added : (es ns : List ℕ) → Ascend 0 ns → Added 0 (In es) ns (with_numbers es ns)
all_added [] ns a = record { ascend = a; numbers = λ k. (λ i. inr i, λ i. elim i [ inl e ↦ absurd e | inr j ↦ j ]); longer = omega arith }
all_added (e ∷ es) ns a =
    let t = added 0 e ns a (omega arith) in
    let s = all_added es (with_number e ns) t.ascend in
    record {
      ascend = s.ascend;
      numbers = λ k. let v = t.numbers k in let w = s.numbers k in (
        λ i. elim (w.0 i) [ inl j ↦ inl (inr j) | inr j ↦ elim (v.0 j) [ inl f ↦ inl (inl f) | inr f ↦ inr f ] ],
        λ i. elim i [ inl j ↦ elim j [ inl f ↦ w.1 (inr (v.1 (inl f))) | inr f ↦ w.1 (inl f) ] | inr j ↦ w.1 (inr (v.1 (inr j))) ],
      );
      longer = omega (arith, t.longer, s.longer);
    }

pub with_all : (xs ys ns : List ℕ) → with_numbers (xs ++ ys) ns ≡ with_numbers ys (with_numbers xs ns)
with_all [] ys ns = refl
with_all (x ∷ xs) ys ns = with_all xs ys (with_number x ns)

-- a number that is there already
pub with_present : (from n : ℕ) (ns : List ℕ) → Ascend from ns → In ns n → with_number n ns ≡ ns
with_present from n [] a i = absurd i
with_present from n (m ∷ ms) a (inl e) = with_same n m ms (sym e)
with_present from n (m ∷ ms) a (inr i) =
    let l = in_from (m + 1) ms n a.1 i in
    with_above n m ms (omega (arith, l)) ∙ ap (λ xs. m ∷ xs) (with_present (m + 1) n ms a.1 i)

-- a number with its place
pub with_placed : (at n : ℕ) (ns : List ℕ) → at ≤ length ns → ((k : ℕ) → k < at → get_or ns k 0 < n) → (at < length ns → n < get_or ns at 0) →
    with_number n ns ≡ insert ns at n
with_placed zero n [] h below above = refl
with_placed zero n (m ∷ ms) h below above = with_below n m ms (above (omega arith))
with_placed (suc at) n [] h below above = absurd (omega (arith, h))
with_placed (suc at) n (m ∷ ms) h below above =
    with_above n m ms (below 0 (omega arith))
    ∙ ap (λ xs. m ∷ xs) (with_placed at n ms (omega (arith, h)) (λ k l. below (suc k) (omega (arith, l))) (λ l. above (omega (arith, l))))

pub at_from : (from k : ℕ) (ns : List ℕ) (d : ℕ) → Ascend from ns → k < length ns → from ≤ get_or ns k d
at_from from k [] d a h = absurd (omega (arith, h))
at_from from zero (n ∷ ns) d a h = a.0
at_from from (suc k) (n ∷ ns) d a h = let ih = at_from (n + 1) k ns d a.1 (omega (arith, h)) in omega (arith, ih, a.0)

-- each number is below a later one
pub rises : (from i j : ℕ) (ns : List ℕ) (d : ℕ) → Ascend from ns → i < j → j < length ns → get_or ns i d < get_or ns j d
rises from i j [] d a l h = absurd (omega (arith, h))
rises from i zero (n ∷ ns) d a l h = absurd (omega (arith, l))
rises from zero (suc j) (n ∷ ns) d a l h = let k = at_from (n + 1) j ns d a.1 (omega (arith, h)) in omega (arith, k)
rises from (suc i) (suc j) (n ∷ ns) d a l h = rises (n + 1) i j ns d a.1 (omega (arith, l)) (omega (arith, h))

pub never_falls : (from : ℕ) (ns : List ℕ) → Ascend from ns → IsNonDecreasingBy (λ n. n) ns
never_falls from ns a i j d l h = elim (cases_order i j) [
  | inl e ↦ omega (arith, ap (λ k. get_or ns k d) e)
  | inr o ↦ elim o [ inl m ↦ omega (arith, rises from i j ns d a m h) | inr g ↦ absurd (omega (arith, l, g)) ]
]
