-- What a binary search says of numbers that ascend.
use Rattle.std.proofs.Common.{ℕ, zero, suc, ◌+◌, ◌<◌, ◌≡◌, ◌∙◌, List, [], ◌∷◌, Ok, Err, inl, inr, sym, ap, subst, arith, length, get_or}
use Rattle.std.specs.List.{insert}
use Rattle.std.specs.List.Sorted.{IsBinarySearchResult}
use Rattle.std.specs.Ordering.{nat_cmp}
use Rattle.std.proofs.lemmas.List.Edits.{length-insert}
use Rattle.std.proofs.lemmas.List.Sorted.{searched}
use Rattle.ip_partition.specs.Boundaries.{Ascend}
use Rattle.ip_partition.specs.inner.Starts.{with_number}
use Rattle.ip_partition.proofs.Sorted.{In, never_falls, with_placed, with_present}

in_place : (ns : List ℕ) (n k d : ℕ) → k < length ns → get_or ns k d ≡ n → In ns n
in_place [] n k d h e = absurd (omega (arith, h))
in_place (m ∷ ms) n zero d h e = inl (sym e)
in_place (m ∷ ms) n (suc k) d h e = inr (in_place ms n k d (omega (arith, h)) e)

pub found : (ns xs : List ℕ) (n at : ℕ) → xs ≡ ns → Ascend 0 ns → IsBinarySearchResult (λ y. nat_cmp y n) xs (Ok at) → with_number n ns ≡ ns
found ns xs n at e a p =
    let P : List ℕ → Type 0 = λ l. IsBinarySearchResult (λ y. nat_cmp y n) l (Ok at) in
    let q : P ns = subst P e p in
    let s = searched ns n (Ok at) q (λ i j l h. never_falls 0 ns a i j 0 l h) in
    with_present 0 n ns a (in_place ns n at 0 s.0 s.1)

pub absent : (ns xs : List ℕ) (n at : ℕ) → xs ≡ ns → Ascend 0 ns → IsBinarySearchResult (λ y. nat_cmp y n) xs (Err at) → with_number n ns ≡ insert ns at n
absent ns xs n at e a p =
    let P : List ℕ → Type 0 = λ l. IsBinarySearchResult (λ y. nat_cmp y n) l (Err at) in
    let q : P ns = subst P e p in
    let s = searched ns n (Err at) q (λ i j l h. never_falls 0 ns a i j 0 l h) in
    with_placed at n ns s.0 s.1 (λ h. s.2 at (omega arith) h)

pub absent_longer : (ns xs : List ℕ) (n at : ℕ) → xs ≡ ns → Ascend 0 ns → IsBinarySearchResult (λ y. nat_cmp y n) xs (Err at) → length (with_number n ns) ≡ length ns + 1
absent_longer ns xs n at e a p =
    let P : List ℕ → Type 0 = λ l. IsBinarySearchResult (λ y. nat_cmp y n) l (Err at) in
    let q : P ns = subst P e p in
    let s = searched ns n (Err at) q (λ i j l h. never_falls 0 ns a i j 0 l h) in
    ap length (absent ns xs n at e a p) ∙ length-insert ns at n s.0
