-- The atoms of a range.
use Rattle.std.proofs.Common.{ℕ, ◌+◌, ◌<◌, ◌≡◌, inl, inr, List, Bool, true, false, ◌||◌, nat_le, nat_lt, sym, ◌∙◌, arith, length, get_or, take}
use Rattle.std.specs.List.Sorted.{IsPartitionPoint}
use Rattle.std.proofs.lemmas.Bool.{cases_order}
use Rattle.std.proofs.lemmas.Bool.Decides.{nat_tests}
use Rattle.interval_set.specs.declared.set.Range.{Range}
use Rattle.interval_set.specs.Numbers.{has, is_within}
use Rattle.interval_set.proofs.Lists.{zero_range}
use Rattle.ip_partition.specs.inner.Atoms.{is_in, AreLeaders}
use Rattle.ip_partition.proofs.Alike.{has_more}

at_point : (p : ℕ → Bool) (starts : List ℕ) (at k : ℕ) → IsPartitionPoint (λ y. p y ≡ true) (λ y. p y ≡ false) starts at → k < length starts → p (get_or starts k 0) ≡ nat_lt k at
at_point p starts at k s h = elim (cases_order k at) [
  | inl e ↦ let f = s.1 k 0 (omega (arith, e)) h in grind (arith, nat_tests, f, e)
  | inr o ↦ elim o [
    | inl l ↦ let f = s.0 k 0 (omega arith) l in grind (arith, nat_tests, f, l)
    | inr g ↦ let f = s.1 k 0 (omega (arith, g)) h in grind (arith, nat_tests, f, g)
  ]
]

pub run : (starts : List ℕ) (range : Range) (first end : ℕ) → IsPartitionPoint (λ y. nat_lt y range.lo ≡ true) (λ y. nat_lt y range.lo ≡ false) starts first →
    IsPartitionPoint (λ y. nat_le y range.hi ≡ true) (λ y. nat_le y range.hi ≡ false) starts end → (k : ℕ) → k < length starts → is_in first end k ≡ is_within range (get_or starts k 0)
run starts range first end s t k h =
    let x = at_point (λ y. nat_lt y range.lo) starts first k s h in
    let y = at_point (λ y. nat_le y range.hi) starts end k t h in
    grind (arith, nat_tests, x, y)

-- one more range none of whose classes reaches out of it
pub closed_more : (starts leaders : List ℕ) (ranges : List Range) (i first end : ℕ) → i < length ranges → AreLeaders leaders → length leaders ≡ length starts →
    ((k : ℕ) → k < length starts → is_in first end k ≡ is_within (get_or ranges i zero_range) (get_or starts k 0)) →
    ((k : ℕ) → k < length leaders → is_in first end k ≡ is_in first end (get_or leaders k 0)) →
    ((k : ℕ) → k < length starts → has (take i ranges) (get_or starts k 0) ≡ has (take i ranges) (get_or starts (get_or leaders k 0) 0)) →
    (k : ℕ) → k < length starts → has (take (i + 1) ranges) (get_or starts k 0) ≡ has (take (i + 1) ranges) (get_or starts (get_or leaders k 0) 0)
closed_more starts leaders ranges i first end h a c atoms closed before k l =
    let lead : ℕ = get_or leaders k 0 in
    let early = a.earlier k (omega (arith, l, c)) in
    let x = atoms k l in
    let y = closed k (omega (arith, l, c)) in
    let z = atoms lead (omega (arith, early, l)) in
    let within : is_within (get_or ranges i zero_range) (get_or starts k 0) ≡ is_within (get_or ranges i zero_range) (get_or starts lead 0) = sym x ∙ y ∙ z in
    let u : (has (take i ranges) (get_or starts k 0) || is_within (get_or ranges i zero_range) (get_or starts k 0))
    ≡ (has (take i ranges) (get_or starts lead 0) || is_within (get_or ranges i zero_range) (get_or starts lead 0)) = λ j. (before k l) j || within j in
    has_more ranges i (get_or starts k 0) h ∙ u ∙ sym (has_more ranges i (get_or starts lead 0) h)

-- one more range marked
pub marked_more : (starts : List ℕ) (ranges : List Range) (old new : List Bool) (i first end : ℕ) → i < length ranges → length old ≡ length starts →
    ((k : ℕ) → k < length starts → is_in first end k ≡ is_within (get_or ranges i zero_range) (get_or starts k 0)) →
    ((k : ℕ) → k < length starts → get_or old k false ≡ has (take i ranges) (get_or starts k 0)) →
    ((k : ℕ) → k < length old → get_or new k false ≡ (get_or old k false || is_in first end k)) →
    (k : ℕ) → k < length starts → get_or new k false ≡ has (take (i + 1) ranges) (get_or starts k 0)
marked_more starts ranges old new i first end h c atoms before marks k l =
    let x = atoms k l in
    let y = before k l in
    let u : (get_or old k false || is_in first end k) ≡ (has (take i ranges) (get_or starts k 0) || is_within (get_or ranges i zero_range) (get_or starts k 0)) = λ j. y j || x j in
    marks k (omega (arith, l, c)) ∙ u ∙ sym (has_more ranges i (get_or starts k 0) h)
