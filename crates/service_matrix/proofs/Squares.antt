-- Joined groups and their edges make a matrix.
use Rattle.std.proofs.Common.{◌≡◌, ◌≢◌, ℕ, zero, suc, ◌^◌, ◌<◌, ◌≤◌, ◌==◌, nat_lt, Bool, true, false, ◌&&◌, ◌⊎◌, inl, inr, ◌↔◌, List, [], ◌∷◌, length, map, None, Some, slice_get, unwrap_or, refl, sym, ◌∙◌, ap, subst, arith}
use Rattle.std.proofs.lemmas.Bool.Decides.{nat_tests}
use Rattle.std.proofs.lemmas.List.{length-map}
use Rattle.std.specs.List.{AllByRecursion}
use Rattle.basics.proofs.Lists.{each_at, each_map}
use Rattle.interval_set.specs.declared.set.Range.{Range}
use Rattle.interval_set.specs.Numbers.{has, IsSet}
use Rattle.ip_partition.specs.Partition.{IsIn, IsPartition}
use Rattle.service_matrix.specs.declared.classes.Class.{Class}
use Rattle.service_matrix.specs.declared.table.Matrix.{Matrix}
use Rattle.service_matrix.specs.inner.Classes.{Differ, addresses_of, edge_row, edges_of, Distinct, Rising, InSome, IsClass, AreClasses}
use Rattle.service_matrix.specs.Matrices.{has_edge, IsSquare, IsMatrix}
use Rattle.service_matrix.proofs.OneMatrix.{set_below}
use Rattle.service_matrix.proofs.Joins.{below_true, under_test}

-- the first number below the bound that fails a test, if one does
find_false : (n : ℕ) (p : ℕ → Bool) → ((k : ℕ) × (k < n) × (p k ≡ false)) ⊎ ((k : ℕ) → k < n → p k ≡ true)
find_false zero p = inr (λ k h. absurd (omega (arith, h)))
find_false (suc n) p = with_last (find_false n p) (p n) refl
  where
    at_last : p n ≡ true → ((k : ℕ) → k < n → p k ≡ true) → (k : ℕ) → k < suc n → (b : Bool) → (k == n) ≡ b → p k ≡ true
    at_last e f k h true same = let q : k ≡ n = grind (arith, nat_tests, same) in ap p q ∙ e
    at_last e f k h false other = f k (grind (arith, nat_tests, h, other))

    with_last : ((k : ℕ) × (k < n) × (p k ≡ false)) ⊎ ((k : ℕ) → k < n → p k ≡ true) → (b : Bool) → p n ≡ b →
        ((k : ℕ) × (k < suc n) × (p k ≡ false)) ⊎ ((k : ℕ) → k < suc n → p k ≡ true)
    with_last (inl t) b e = inl (t.0, omega (arith, t.1), t.2)
    with_last (inr f) false e = inl (n, omega arith, e)
    with_last (inr f) true e = inr (λ k h. at_last e f k h (k == n) refl)

abbrev agree : Bool → Bool → Bool
agree true true = true
agree true false = false
agree false true = false
agree false false = true

agree_same : (x y : Bool) → agree x y ≡ true → x ≡ y
agree_same true true e = refl
agree_same true false e = sym e
agree_same false true e = e
agree_same false false e = refl

two_agree : (x y u v : Bool) → (agree x y && agree u v) ≡ true → (x ≡ y) × (u ≡ v)
two_agree x y u v e = (agree_same x y (grind (arith, e)), agree_same u v (grind (arith, e)))

one_differs : (x y u v : Bool) → (agree x y && agree u v) ≡ false → (x ≢ y) ⊎ (u ≢ v)
one_differs true true true true e = absurd (grind (arith, e))
one_differs true true true false e = inr (λ f. cc)
one_differs true true false true e = inr (λ f. cc)
one_differs true true false false e = absurd (grind (arith, e))
one_differs true false u v e = inl (λ f. cc)
one_differs false true u v e = inl (λ f. cc)
one_differs false false true true e = absurd (grind (arith, e))
one_differs false false true false e = inr (λ f. cc)
one_differs false false false true e = inr (λ f. cc)
one_differs false false false false e = absurd (grind (arith, e))

map_at : {X Y : Type 0} (g : X → Y) (y : Y) (xs : List X) (i : ℕ) (x : X) → slice_get xs i ≡ Some x → unwrap_or (slice_get (map g xs) i) y ≡ g x
map_at g y [] i x e = let f : None ≡ Some x = e in absurd (cc f)
map_at g y (z ∷ xs) zero x e = let f : z ≡ x = cc (e) in ap g f
map_at g y (z ∷ xs) (suc i) x e = map_at g y xs i x e

each_here : {X : Type 0} (Q : X → Type 0) (xs : List X) → ((x : X) → Q x) → AllByRecursion Q xs
each_here Q [] f = tt
each_here Q (x ∷ xs) f = (f x, each_here Q xs f)

module _ {W : ℕ} where
  place_of : (cs : List (Class W)) (i : ℕ) → i < length (addresses_of cs) → (class : Class W) × (slice_get cs i ≡ Some class)
  place_of [] i h = absurd (omega (arith, h))
  place_of (c ∷ cs) zero h = (c, refl)
  place_of (c ∷ cs) (suc i) h = place_of cs i (omega (arith, h))

  in_place : (cs : List (Class W)) (i n : ℕ) (class : Class W) → slice_get cs i ≡ Some class → has class.addresses n ≡ true → IsIn (addresses_of cs) i n
  in_place [] i n class e h = let f : None ≡ Some class = e in absurd (cc f)
  in_place (c ∷ cs) zero n class e h = let f : class ≡ c = cc (e) in (c.addresses, refl, subst (λ (z : Class W). has z.addresses n ≡ true) f h)
  in_place (c ∷ cs) (suc i) n class e h = in_place cs i n class e h

  from_place : (cs : List (Class W)) (i n : ℕ) → IsIn (addresses_of cs) i n → (class : Class W) × (slice_get cs i ≡ Some class) × (has class.addresses n ≡ true)
  from_place [] i n x = let f : None ≡ Some x.0 = x.1 in absurd (cc f)
  from_place (c ∷ cs) zero n x = let f : x.0 ≡ c.addresses = cc (x.1) in (c, refl, subst (λ (z : List Range). has z n ≡ true) f x.2)
  from_place (c ∷ cs) (suc i) n x = from_place cs i n x

  distinct_at : (cs : List (Class W)) (i j : ℕ) (a b : Class W) → Distinct cs → i < j → slice_get cs i ≡ Some a → slice_get cs j ≡ Some b → Differ a b
  distinct_at [] i j a b h l x y = let f : None ≡ Some a = x in absurd (cc f)
  distinct_at (c ∷ cs) i zero a b h l x y = absurd (omega (arith, l))
  distinct_at (c ∷ cs) zero (suc j) a b h l x y = let f : c ≡ a = cc (x) in subst (λ (z : Class W). Differ z b) f (each_at (λ (z : Class W). Differ c z) cs j b h.0 y)
  distinct_at (c ∷ cs) (suc i) (suc j) a b h l x y = distinct_at cs i j a b h.1 (omega (arith, l)) x y

  rising_at : (cs : List (Class W)) (i j : ℕ) (a b : Class W) → Rising cs → i < j → slice_get cs i ≡ Some a → slice_get cs j ≡ Some b → a.least < b.least
  rising_at [] i j a b h l x y = let f : None ≡ Some a = x in absurd (cc f)
  rising_at (c ∷ cs) i zero a b h l x y = absurd (omega (arith, l))
  rising_at (c ∷ cs) zero (suc j) a b h l x y = let f : c ≡ a = cc (x) in subst (λ (z : Class W). z.least < b.least) f (each_at (λ (z : Class W). c.least < z.least) cs j b h.0 y)
  rising_at (c ∷ cs) (suc i) (suc j) a b h l x y = rising_at cs i j a b h.1 (omega (arith, l)) x y

  module _ (f : ℕ → ℕ → Bool) (groups : List (List Range)) (cs : List (Class W)) (h : AreClasses f groups [] cs) (p : IsPartition W groups) where
    class_at : (i : ℕ) (a : Class W) → slice_get cs i ≡ Some a → IsClass f a
    class_at i a e = each_at (IsClass f) cs i a h.each e

    -- two classes with the same row and the same column are one
    one_place : (i j : ℕ) (a b : Class W) → slice_get cs i ≡ Some a → slice_get cs j ≡ Some b → ((n : ℕ) → has a.row n ≡ has b.row n) → ((n : ℕ) → has a.column n ≡ has b.column n) → i ≡ j
    one_place i j a b x y row column = by (nat_lt i j) (nat_lt j i) refl refl
      where
        by : (u v : Bool) → nat_lt i j ≡ u → nat_lt j i ≡ v → i ≡ j
        by true v e g = absurd (distinct_at cs i j a b h.distinct (grind (arith, nat_tests, e)) x y row column)
        by false true e g = absurd (distinct_at cs j i b a h.distinct (grind (arith, nat_tests, g)) y x (λ n. sym (row n)) (λ n. sym (column n)))
        by false false e g = grind (arith, nat_tests, e, g)

    covered : (n : ℕ) → n < 2 ^ W → InSome (addresses_of cs) n
    covered n small = by (h.all n (p.covers n small))
      where
        by : InSome [] n ⊎ InSome (addresses_of cs) n → InSome (addresses_of cs) n
        by (inl x) = let f : None ≡ Some (x.1).0 = (x.1).1 in absurd (cc f)
        by (inr x) = x

    partition : IsPartition W (addresses_of cs)
    partition = record {
      sets = each_map (IsSet W) (λ (c : Class W). c.addresses) cs (each_of cs h.each);
      some = λ i l. let a = place_of cs i l in ((a.0).least, in_place cs i (a.0).least a.0 a.1 ((class_at i a.0 a.1).first).0);
      covers = covered;
      apart = λ i j n x y.
          let a = from_place cs i n x in
          let b = from_place cs j n y in
          one_place i j a.0 b.0 a.1 b.1
          (λ d. (class_at i a.0 a.1).from n d a.2 ∙ sym ((class_at j b.0 b.1).from n d b.2))
          (λ s. (class_at i a.0 a.1).to s n a.2 ∙ sym ((class_at j b.0 b.1).to s n b.2));
      ordered = λ i j n l y.
          let b = from_place cs j n y in
          let a = place_of cs i (earlier cs i j b.0 l b.1) in
          let less = rising_at cs i j a.0 b.0 h.rising l a.1 b.1 in
          let low : (b.0).least ≤ n = ((class_at j b.0 b.1).first).1 n b.2 in
          ((a.0).least, in_place cs i (a.0).least a.0 a.1 ((class_at i a.0 a.1).first).0, omega (arith, less, low));
    }
      where
        each_of : (xs : List (Class W)) → AllByRecursion (IsClass f) xs → AllByRecursion (λ (c : Class W). IsSet W c.addresses) xs
        each_of [] k = tt
        each_of (x ∷ xs) k = ((k.0).range, each_of xs k.1)

        earlier : (xs : List (Class W)) (i j : ℕ) (b : Class W) → i < j → slice_get xs j ≡ Some b → i < length (addresses_of xs)
        earlier [] i j b l e = let g : None ≡ Some b = e in absurd (cc g)
        earlier (x ∷ xs) i zero b l e = absurd (omega (arith, l))
        earlier (x ∷ xs) zero (suc j) b l e = omega arith
        earlier (x ∷ xs) (suc i) (suc j) b l e = let k = earlier xs i j b (omega (arith, l)) e in omega (arith, k)

    edge_at : (i j : ℕ) (a b : Class W) → slice_get cs i ≡ Some a → slice_get cs j ≡ Some b → has_edge (edges_of cs) i j ≡ has a.row b.least
    edge_at i j a b x y =
        ap (λ (row : List Bool). unwrap_or (slice_get row j) false) (map_at (λ (c : Class W). edge_row c cs) [] cs i a x) ∙ map_at (λ (c : Class W). has a.row c.least) false cs j b y

    -- an edge between two classes goes between all their addresses
    edge_is : (i j s d : ℕ) → IsIn (addresses_of cs) i s → IsIn (addresses_of cs) j d → has_edge (edges_of cs) i j ≡ f s d
    edge_is i j s d x y =
        let a = from_place cs i s x in
        let b = from_place cs j d y in
        let ia = class_at i a.0 a.1 in
        let ib = class_at j b.0 b.1 in
        let s_small : s < 2 ^ W = set_below W (a.0).addresses s ia.range a.2 in
        let b_small : (b.0).least < 2 ^ W = set_below W (b.0).addresses (b.0).least ib.range (ib.first).0 in
        edge_at i j a.0 b.0 a.1 b.1 ∙ ia.from s (b.0).least a.2 ∙ below_true (b.0).least (2 ^ W) (f s (b.0).least) b_small
        ∙ sym (below_true s (2 ^ W) (f s (b.0).least) s_small) ∙ sym (ib.to s (b.0).least (ib.first).0) ∙ ib.to s d b.2 ∙ below_true s (2 ^ W) (f s d) s_small

    square : IsSquare (length (addresses_of cs)) (edges_of cs)
    square = (
      length-map cs (λ (c : Class W). edge_row c cs) ∙ sym (length-map cs (λ (c : Class W). c.addresses)),
      each_map (λ (row : List Bool). length row ≡ length (addresses_of cs)) (λ (c : Class W). edge_row c cs) cs
          (each_here (λ (c : Class W). length (edge_row c cs) ≡ length (addresses_of cs)) cs (λ c. length-map cs (λ (x : Class W). has c.row x.least) ∙ sym (length-map cs (λ (x : Class W). x.addresses)))),
    )

    module _ (i j : ℕ) (a b : Class W) (x : slice_get cs i ≡ Some a) (y : slice_get cs j ≡ Some b) where
      abbrev agree_at : ℕ → Bool
      agree_at k = agree (has_edge (edges_of cs) i k) (has_edge (edges_of cs) j k) && agree (has_edge (edges_of cs) k i) (has_edge (edges_of cs) k j)

      -- where no edge tells them apart they have the same row and the same column
      one_if : ((k : ℕ) → k < length (addresses_of cs) → agree_at k ≡ true) → i ≡ j
      one_if all =
          let ia = class_at i a x in
          let ib = class_at j b y in
          let ina = in_place cs i a.least a x (ia.first).0 in
          let inb = in_place cs j b.least b y (ib.first).0 in
          one_place i j a b x y
          (λ n. ia.from a.least n (ia.first).0 ∙ under_test n (2 ^ W) (f a.least n) (f b.least n) (λ small.
          let k = covered n small in
          sym (edge_is i k.0 a.least n ina k.1) ∙ (agreed k.0 n k.1).0 ∙ edge_is j k.0 b.least n inb k.1) ∙ sym (ib.from b.least n (ib.first).0))
          (λ n. ia.to n a.least (ia.first).0 ∙ under_test n (2 ^ W) (f n a.least) (f n b.least) (λ small.
          let k = covered n small in
          sym (edge_is k.0 i n a.least k.1 ina) ∙ (agreed k.0 n k.1).1 ∙ edge_is k.0 j n b.least k.1 inb) ∙ sym (ib.to n b.least (ib.first).0))
        where
          bounded : (xs : List (List Range)) (k n : ℕ) → IsIn xs k n → k < length xs
          bounded [] k n z = let g : None ≡ Some z.0 = z.1 in absurd (cc g)
          bounded (c ∷ xs) zero n z = omega arith
          bounded (c ∷ xs) (suc k) n z = let l = bounded xs k n z in omega (arith, l)

          agreed : (k n : ℕ) → IsIn (addresses_of cs) k n → (has_edge (edges_of cs) i k ≡ has_edge (edges_of cs) j k) × (has_edge (edges_of cs) k i ≡ has_edge (edges_of cs) k j)
          agreed k n z = two_agree (has_edge (edges_of cs) i k) (has_edge (edges_of cs) j k) (has_edge (edges_of cs) k i) (has_edge (edges_of cs) k j) (all k (bounded (addresses_of cs) k n z))

      told_apart : i ≢ j → (k : ℕ) × (k < length (addresses_of cs)) × ((has_edge (edges_of cs) i k ≢ has_edge (edges_of cs) j k) ⊎ (has_edge (edges_of cs) k i ≢ has_edge (edges_of cs) k j))
      told_apart ne = by (find_false (length (addresses_of cs)) agree_at)
        where
          by : ((k : ℕ) × (k < length (addresses_of cs)) × (agree_at k ≡ false)) ⊎ ((k : ℕ) → k < length (addresses_of cs) → agree_at k ≡ true) →
              (k : ℕ) × (k < length (addresses_of cs)) × ((has_edge (edges_of cs) i k ≢ has_edge (edges_of cs) j k) ⊎ (has_edge (edges_of cs) k i ≢ has_edge (edges_of cs) k j))
          by (inl t) = (t.0, t.1, one_differs (has_edge (edges_of cs) i t.0) (has_edge (edges_of cs) j t.0) (has_edge (edges_of cs) t.0 i) (has_edge (edges_of cs) t.0 j) t.2)
          by (inr all) = absurd (ne (one_if all))

    -- the matrix of what `f` stands for
    pub is_matrix : (E : ℕ → ℕ → Type 0) → ((s d : ℕ) → s < 2 ^ W → d < 2 ^ W → (f s d ≡ true) ↔ E s d) → (matrix : Matrix W) →
        matrix.classes ≡ addresses_of cs → matrix.edges ≡ edges_of cs → IsMatrix E matrix
    is_matrix E means matrix ec ee = subst (λ (m : Matrix W). IsMatrix E m) (λ i. record { classes = sym ec i; edges = sym ee i }) (record {
      partition = partition;
      square = square;
      edges_are = λ i j s d x y.
          let m = means s d (small i s x) (small j d y) in
          let e = edge_is i j s d x y in
          (λ t. m.0 (sym e ∙ t), λ t. e ∙ m.1 t);
      differ = λ i j hi hj ne.
          let a = place_of cs i hi in
          let b = place_of cs j hj in
          told_apart i j a.0 b.0 a.1 b.1 ne;
    })
      where
        small : (i s : ℕ) → IsIn (addresses_of cs) i s → s < 2 ^ W
        small i s x = let a = from_place cs i s x in set_below W (a.0).addresses s (class_at i a.0 a.1).range a.2
