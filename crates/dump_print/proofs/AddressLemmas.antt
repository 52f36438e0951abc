-- Ranges of addresses, and the length of the prefix that is one.
use Rattle.std.proofs.Common.{◌≡◌, ◌≤◌, ◌<◌, ⊎_elim, ℕ, zero, suc, Bool, true, false, Option, None, Some, IfSome, if◌then◌else◌, refl, sym, subst, arith}
use Rattle.std.proofs.lemmas.Bool.{cases_lt}
use Rattle.std.proofs.lemmas.Bool.Decides.{nat_tests}
use Rattle.interval_set.specs.declared.set.Range.{Range}
use Rattle.interval_set.specs.Prefix.{IsPrefix, prefix_range}
use Rattle.dump_print.specs.Addresses.{prefix_length, prefix_length_to, same_range}

same_ends : (a b : Range) → same_range a b ≡ true → (a.lo ≡ b.lo) × (a.hi ≡ b.hi)
same_ends a b e = (grind (arith, nat_tests), grind (arith, nat_tests))

is_same : (a b : Range) → same_range a b ≡ true → a ≡ b
is_same a b e = λ i. record { lo = (same_ends a b e).0 i; hi = (same_ends a b e).1 i }

itself : (a : Range) → same_range a a ≡ true
itself a = grind (arith, nat_tests)

found_here : (w most len : ℕ) (r : Range) (o : Option ℕ) → (o ≡ Some len → (len ≤ most) × (prefix_range w r.lo len ≡ r)) →
    (b : Bool) → same_range (prefix_range w r.lo (suc most)) r ≡ b → (if b then Some (suc most) else o) ≡ Some len →
    (len ≤ suc most) × (prefix_range w r.lo len ≡ r)
found_here w most len r o below true s e =
    let same : suc most ≡ len = cc in
    let P : ℕ → Type 0 = λ n. (n ≤ suc most) × (prefix_range w r.lo n ≡ r) in
    subst P same (omega arith, is_same _ _ s)
found_here w most len r o below false s e = let h = below e in (omega (arith, h.0), h.1)

found_first : (w len : ℕ) (r : Range) (b : Bool) → same_range (prefix_range w r.lo 0) r ≡ b → if◌then◌else◌ {A = Option ℕ} b (Some 0) None ≡ Some len →
    (len ≤ 0) × (prefix_range w r.lo len ≡ r)
found_first w len r true s e =
    let same : 0 ≡ len = cc in
    let P : ℕ → Type 0 = λ n. (n ≤ 0) × (prefix_range w r.lo n ≡ r) in
    subst P same (omega arith, is_same _ _ s)
found_first w len r false s e = absurd cc

-- a length that is found is that of the range
pub found : (w most len : ℕ) (r : Range) → prefix_length_to w r most ≡ Some len → (len ≤ most) × (prefix_range w r.lo len ≡ r)
unfolding prefix_length_to
found w zero len r e = found_first w len r (same_range (prefix_range w r.lo 0) r) refl e
found w (suc most) len r e = found_here w most len r (prefix_length_to w r most) (found w most len r) (same_range (prefix_range w r.lo (suc most)) r) refl e

same_length : (w n len : ℕ) (r : Range) → len ≡ n → prefix_range w r.lo len ≡ r → same_range (prefix_range w r.lo n) r ≡ true
same_length w n len r e p =
    let P : Range → Type 0 = λ x. same_range x r ≡ true in
    let Q : ℕ → Type 0 = λ k. same_range (prefix_range w r.lo k) r ≡ true in
    subst Q e (subst P (sym p) (itself r))

none_first : (w len : ℕ) (r : Range) (b : Bool) → same_range (prefix_range w r.lo 0) r ≡ b → if◌then◌else◌ {A = Option ℕ} b (Some 0) None ≡ None →
    len ≤ 0 → prefix_range w r.lo len ≡ r → ⊥
none_first w len r true s e l p = absurd cc
none_first w len r false s e l p = let h = same_length w 0 len r (omega arith) p in cc

none_here : (w most len : ℕ) (r : Range) (o : Option ℕ) → (o ≡ None → len ≤ most → prefix_range w r.lo len ≡ r → ⊥) →
    (b : Bool) → same_range (prefix_range w r.lo (suc most)) r ≡ b → (if b then Some (suc most) else o) ≡ None →
    len ≤ suc most → prefix_range w r.lo len ≡ r → ⊥
none_here w most len r o below true s e l p = absurd cc
none_here w most len r o below false s e l p =
    ⊎_elim (λ (less : most < len). let h = same_length w (suc most) len r (omega arith) p in cc) (λ (more : len ≤ most). below e more p) (cases_lt most len)

none : (w most len : ℕ) (r : Range) → prefix_length_to w r most ≡ None → len ≤ most → prefix_range w r.lo len ≡ r → ⊥
unfolding prefix_length_to
none w zero len r e l p = none_first w len r (same_range (prefix_range w r.lo 0) r) refl e l p
none w (suc most) len r e l p =
    none_here w most len r (prefix_length_to w r most) (none w most len r) (same_range (prefix_range w r.lo (suc most)) r) refl e l p

either : (w : ℕ) (r : Range) (o p : Option ℕ) → prefix_length w r ≡ p → IfSome o (λ len. len ≤ w) → IfSome o (λ len. prefix_range w r.lo len ≡ r) →
    ((len : ℕ) → IsPrefix w r len → o ≡ Some len) → o ≡ p
either w r o (Some len) e small begins exact = let h = found w w len r e in exact len (h.0, (r.lo, h.1))
either w r None None e small begins exact = refl
either w r (Some len) None e small begins exact = absurd (none w w len r e small begins)

within : (w : ℕ) (r : Range) (o : Option ℕ) → IfSome o (IsPrefix w r) → IfSome o (λ len. len ≤ w)
within w r None h = tt
within w r (Some len) h = h.0

-- the one answer to which length the prefix has
pub prefix_length_is : (w : ℕ) (r : Range) (o : Option ℕ) → IfSome o (IsPrefix w r) → IfSome o (λ len. prefix_range w r.lo len ≡ r) →
    ((len : ℕ) → IsPrefix w r len → o ≡ Some len) → o ≡ prefix_length w r
prefix_length_is w r o is begins exact = either w r o (prefix_length w r) refl (within w r o is) begins exact
