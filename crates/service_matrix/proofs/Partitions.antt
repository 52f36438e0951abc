-- Two partitions with the same classes are one list.
use Rattle.std.proofs.Common.{◌≡◌, ℕ, zero, suc, ◌+◌, ◌<◌, Bool, true, false, List, [], ◌∷◌, None, Some, refl, sym, subst, arith}
use Rattle.basics.proofs.Truths.{same_truth}
use Rattle.interval_set.specs.declared.set.Range.{Range}
use Rattle.interval_set.specs.Numbers.{has}
use Rattle.interval_set.proofs.Same.{by_numbers}
use Rattle.ip_partition.specs.Partition.{IsIn, IsPartition}
use Rattle.service_matrix.specs.inner.Classes.{Ordered}
use Rattle.service_matrix.specs.Matrices.{AreTogether}

pub of_partition : (w : ℕ) (classes : List (List Range)) → IsPartition w classes → Ordered w classes
of_partition w classes p = record { sets = p.sets; some = p.some; apart = p.apart; ordered = p.ordered }

abbrev pub SameClasses : List (List Range) → List (List Range) → Type 0
SameClasses xs ys = (n m : ℕ) → AreTogether xs n m → AreTogether ys n m

pub head_has : (c : List Range) (cs : List (List Range)) (n : ℕ) → IsIn (c ∷ cs) 0 n → has c n ≡ true
head_has c cs n x = let e : x.0 ≡ c = cc (x.1) in subst (λ (z : List Range). has z n ≡ true) e x.2

pub head_in : (c : List Range) (cs : List (List Range)) (n : ℕ) → has c n ≡ true → IsIn (c ∷ cs) 0 n
head_in c cs n h = (c, refl, h)

module _ (w : ℕ) (a b : List Range) (xs ys : List (List Range)) (oa : Ordered w (a ∷ xs)) (ob : Ordered w (b ∷ ys))
    (there : SameClasses (a ∷ xs) (b ∷ ys)) (back : SameClasses (b ∷ ys) (a ∷ xs)) where
  abbrev Shared : Type 0
  Shared = (k : ℕ) × (has a k ≡ true) × (has b k ≡ true)

  abbrev Below : ℕ → Type 0
  Below bound = (n : ℕ) → n < bound → has a n ≡ true → Shared

  in_first : (bound : ℕ) → Below bound → (m : ℕ) → m < bound + 1 → has b m ≡ true → (i : ℕ) → IsIn (a ∷ xs) i m → Shared
  in_first bound less m small h zero x = (m, head_has a xs m x, h)
  in_first bound less m small h (suc i) x =
      let k = oa.ordered 0 (suc i) m (omega arith) x in less k.0 (omega (arith, k.2, small)) (head_has a xs k.0 k.1)

  in_second : (bound : ℕ) → Below bound → (n : ℕ) → n < bound + 1 → has a n ≡ true → (j : ℕ) → IsIn (b ∷ ys) j n → Shared
  in_second bound less n small h zero x = (n, h, head_has b ys n x)
  in_second bound less n small h (suc j) x =
      let m = ob.ordered 0 (suc j) n (omega arith) x in
      let hb = head_has b ys m.0 m.1 in
      let t = back m.0 m.0 (0, head_in b ys m.0 hb, head_in b ys m.0 hb) in
      in_first bound less m.0 (omega (arith, m.2, small)) hb t.0 t.1

  shared_below : (bound : ℕ) → Below bound
  shared_below zero n h x = absurd (omega (arith, h))
  shared_below (suc bound) n h x =
      let t = there n n (0, head_in a xs n x, head_in a xs n x) in
      in_second bound (shared_below bound) n (omega (arith, h)) x t.0 t.1

  shared : Shared
  shared = let n = oa.some 0 (omega arith) in shared_below (n.0 + 1) n.0 (omega arith) (head_has a xs n.0 n.1)

  right_way : (n : ℕ) → has a n ≡ true → has b n ≡ true
  right_way n h =
      let t = there (shared.0) n (0, head_in a xs (shared.0) (shared.1), head_in a xs n h) in
      let e : t.0 ≡ 0 = ob.apart t.0 0 (shared.0) t.1 (head_in b ys (shared.0) (shared.2)) in
      head_has b ys n (subst (λ (z : ℕ). IsIn (b ∷ ys) z n) e t.2)

  left_way : (n : ℕ) → has b n ≡ true → has a n ≡ true
  left_way n h =
      let t = back (shared.0) n (0, head_in b ys (shared.0) (shared.2), head_in b ys n h) in
      let e : t.0 ≡ 0 = oa.apart t.0 0 (shared.0) t.1 (head_in a xs (shared.0) (shared.1)) in
      head_has a xs n (subst (λ (z : ℕ). IsIn (a ∷ xs) z n) e t.2)

  pub heads : a ≡ b
  heads = by_numbers w a b (oa.sets).0 (ob.sets).0 (λ n. same_truth (has a n) (has b n) (right_way n) (left_way n))

  tail_at : (n m i : ℕ) → IsIn xs i n → IsIn xs i m → (j : ℕ) → IsIn (b ∷ ys) j n → IsIn (b ∷ ys) j m → AreTogether ys n m
  tail_at n m i x y zero u v =
      let e : suc i ≡ 0 = oa.apart (suc i) 0 n x (head_in a xs n (left_way n (head_has b ys n u))) in absurd (omega (arith, e))
  tail_at n m i x y (suc j) u v = (j, u, v)

  pub tails : SameClasses xs ys
  tails n m t = let u = there n m (suc t.0, t.1, t.2) in tail_at n m t.0 t.1 t.2 u.0 u.1 u.2

pub rest_ordered : (w : ℕ) (a : List Range) (xs : List (List Range)) → Ordered w (a ∷ xs) → Ordered w xs
rest_ordered w a xs o = record {
  sets = (o.sets).1;
  some = λ i h. o.some (suc i) (omega (arith, h));
  apart = λ i j n x y. let e : suc i ≡ suc j = o.apart (suc i) (suc j) n x y in omega (arith, e);
  ordered = λ i j n h x. o.ordered (suc i) (suc j) n (omega (arith, h)) x;
}

pub one_list : (w : ℕ) (xs ys : List (List Range)) → Ordered w xs → Ordered w ys → SameClasses xs ys → SameClasses ys xs → xs ≡ ys
one_list w [] [] oa ob f g = refl
one_list w [] (b ∷ ys) oa ob f g = let n = ob.some 0 (omega arith) in let t = g n.0 n.0 (0, n.1, n.1) in (let e : None ≡ Some (t.1).0 = (t.1).1 in cc)
one_list w (a ∷ xs) [] oa ob f g = let n = oa.some 0 (omega arith) in let t = f n.0 n.0 (0, n.1, n.1) in (let e : None ≡ Some (t.1).0 = (t.1).1 in cc)
one_list w (a ∷ xs) (b ∷ ys) oa ob f g =
    let head : a ≡ b = heads w a b xs ys oa ob f g in
    let tail : xs ≡ ys = one_list w xs ys (rest_ordered w a xs oa) (rest_ordered w b ys ob) (tails w a b xs ys oa ob f g) (tails w b a ys xs ob oa g f) in
    cc
