-- Some sets have one number of boundaries.
use Rattle.std.proofs.Common.{◌≡◌, ◌∙◌, ◌≤◌, ◌+◌, ℕ, List, [], ◌∷◌, Contains, refl, inl, inr, arith, ap, sym, length}
use Rattle.interval_set.specs.declared.set.Range.{Range}
use Rattle.ip_partition.specs.Boundaries.{Ascend, HasBoundaries}
use Rattle.fffuu_run.proofs.DumpLemmas.{contains_cons, contains_here, contains_none, contains_there}

above : (from : ℕ) (xs : List ℕ) (n : ℕ) → Ascend from xs → Contains xs n → from ≤ n
above from [] n up there = absurd (contains_none n there)
above from (x ∷ xs) n up there = elim (contains_cons x xs n there) [
  | inl same ↦ omega (arith, up.0, same)
  | inr later ↦ omega (arith, up.0, above (x + 1) xs n up.1 later)
]

one_list : (from from' : ℕ) (xs ys : List ℕ) → Ascend from xs → Ascend from' ys → ((n : ℕ) → Contains xs n → Contains ys n)
    → ((n : ℕ) → Contains ys n → Contains xs n) → xs ≡ ys
one_list from from' [] [] up up' to back = refl
one_list from from' [] (y ∷ ys) up up' to back = absurd (contains_none y (back y (contains_here y ys)))
one_list from from' (x ∷ xs) [] up up' to back = absurd (contains_none x (to x (contains_here x xs)))
one_list from from' (x ∷ xs) (y ∷ ys) up up' to back =
    let low : y ≤ x = elim (contains_cons y ys x (to x (contains_here x xs))) [
      | inl same ↦ omega (arith, same)
      | inr later ↦ omega (arith, above (y + 1) ys x up'.1 later)
    ] in
    let high : x ≤ y = elim (contains_cons x xs y (back y (contains_here y ys))) [
      | inl same ↦ omega (arith, same)
      | inr later ↦ omega (arith, above (x + 1) xs y up.1 later)
    ] in
    let same : x ≡ y = omega (arith, low, high) in
    let rest : xs ≡ ys = one_list (x + 1) (y + 1) xs ys up.1 up'.1
    (λ n there. elim (contains_cons y ys n (to n (contains_there x xs n there))) [
      | inl is ↦ absurd (omega (arith, above (x + 1) xs n up.1 there, is, same))
      | inr later ↦ later
    ])
    (λ n there. elim (contains_cons x xs n (back n (contains_there y ys n there))) [
      | inl is ↦ absurd (omega (arith, above (y + 1) ys n up'.1 there, is, same))
      | inr later ↦ later
    ]) in
    rw same (ap (λ (zs : List ℕ). y ∷ zs) rest)

pub one_count : (w : ℕ) (Is : List Range → Type 0) (m n : ℕ) → HasBoundaries w Is m → HasBoundaries w Is n → m ≡ n
one_count w Is m n a b =
    let same : a.numbers ≡ b.numbers = one_list 0 0 a.numbers b.numbers a.ascend b.ascend
    (λ k there. (b.all k).1 ((a.all k).0 there)) (λ k there. (a.all k).1 ((b.all k).0 there)) in
    sym a.count_is ∙ ap length same ∙ b.count_is
