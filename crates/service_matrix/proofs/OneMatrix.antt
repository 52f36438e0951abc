-- Edges between addresses have one matrix alone.
use Rattle.std.proofs.Common.{◌≡◌, ◌≢◌, ℕ, zero, suc, ◌-◌, ◌^◌, ◌<◌, ◌≤◌, ◌==◌, Bool, true, false, ◌↔◌, ◌⊎◌, inl, inr, List, [], ◌∷◌, length, None, Some, slice_get, unwrap_or, Result, IfOk, refl, sym, ◌∙◌, subst, arith}
use Rattle.std.proofs.lemmas.Bool.Decides.{nat_tests}
use Rattle.std.proofs.lemmas.Result.{IfOk-weaker}
use Rattle.std.specs.List.{AllByRecursion}
use Rattle.basics.proofs.Lists.{each_at, in_bounds}
use Rattle.basics.proofs.Truths.{same_truth}
use Rattle.interval_set.specs.declared.set.Range.{Range}
use Rattle.interval_set.specs.Numbers.{has, IsSet}
use Rattle.interval_set.proofs.Spelling.{has_above, power}
use Rattle.ip_partition.specs.Partition.{IsIn}
use Rattle.service_matrix.specs.declared.table.Matrix.{Matrix}
use Rattle.service_matrix.specs.Matrices.{has_edge, IsCoarsest, IsMatrix, IsSquare, IsUniform}
use Rattle.service_matrix.specs.Laws.{HasOneMatrix}
use Rattle.service_matrix.proofs.Partitions.{of_partition, SameClasses, one_list}

pub set_below : (w : ℕ) (set : List Range) (n : ℕ) → IsSet w set → has set n ≡ true → n < 2 ^ w
set_below w set n s h =
    let p : 1 ≤ 2 ^ w = power w s.0 in
    let above : 2 ^ w - 1 < n → has set n ≡ false = λ l. has_above (2 ^ w - 1) 0 n set s.1 l in
    grind (arith, p, above, h)

-- what is in a class is an address
pub in_below : (w : ℕ) (classes : List (List Range)) (i n : ℕ) → AllByRecursion (IsSet w) classes → IsIn classes i n → n < 2 ^ w
in_below w classes i n h x = set_below w x.0 n (each_at (IsSet w) classes i x.0 h x.1) x.2

-- lists of one length with the same items
same_lists : {X : Type 0} (x : X) (xs ys : List X) → length xs ≡ length ys → ((i : ℕ) → i < length xs → unwrap_or (slice_get xs i) x ≡ unwrap_or (slice_get ys i) x) → xs ≡ ys
same_lists x [] [] l e = refl
same_lists x [] (y ∷ ys) l e = absurd (omega (arith, l))
same_lists x (z ∷ xs) [] l e = absurd (omega (arith, l))
same_lists x (z ∷ xs) (y ∷ ys) l e =
    let head : z ≡ y = e 0 (omega arith) in
    let tail : xs ≡ ys = same_lists x xs ys (omega (arith, l)) (λ i h. e (suc i) (omega (arith, h))) in
    cc

each_long : (n : ℕ) (edges : List (List Bool)) (i : ℕ) → AllByRecursion (λ row. length row ≡ n) edges → i < length edges → length (unwrap_or (slice_get edges i) []) ≡ n
each_long n [] i h l = absurd (omega (arith, l))
each_long n (r ∷ rs) zero h l = h.0
each_long n (r ∷ rs) (suc i) h l = each_long n rs i h.1 (omega (arith, l))

same_edges : (n : ℕ) (a b : List (List Bool)) → IsSquare n a → IsSquare n b → ((i j : ℕ) → i < n → j < n → has_edge a i j ≡ has_edge b i j) → a ≡ b
same_edges n a b sa sb e =
    same_lists [] a b (sa.0 ∙ sym sb.0) (λ i l.
    let la : length (unwrap_or (slice_get a i) []) ≡ n = each_long n a i sa.1 l in
    let lb : length (unwrap_or (slice_get b i) []) ≡ n = each_long n b i sb.1 (omega (arith, l, sa.0, sb.0)) in
    same_lists false (unwrap_or (slice_get a i) []) (unwrap_or (slice_get b i) []) (la ∙ sym lb)
    (λ j h. e i j (omega (arith, l, sa.0)) (omega (arith, h, la))))

-- a matrix has two addresses in one class where E can't tell them apart
module _ {W : ℕ} (E : ℕ → ℕ → Type 0) (b : Matrix W) (mb : IsMatrix E b) where
  module _ (n m : ℕ) (to : (d : ℕ) → d < 2 ^ W → E n d ↔ E m d) (from : (d : ℕ) → d < 2 ^ W → E d n ↔ E d m) (i j : ℕ) (x : IsIn b.classes i n) (y : IsIn b.classes j m) where
    told : (k : ℕ) → k < length b.classes → (has_edge b.edges i k ≡ has_edge b.edges j k) × (has_edge b.edges k i ≡ has_edge b.edges k j)
    told k h =
        let d = mb.partition.some k h in
        let l = in_below W b.classes k d.0 mb.partition.sets d.1 in (
          same_truth (has_edge b.edges i k) (has_edge b.edges j k)
              (λ e. (mb.edges_are j k m d.0 y d.1).1 ((to d.0 l).0 ((mb.edges_are i k n d.0 x d.1).0 e)))
              (λ e. (mb.edges_are i k n d.0 x d.1).1 ((to d.0 l).1 ((mb.edges_are j k m d.0 y d.1).0 e))),
          same_truth (has_edge b.edges k i) (has_edge b.edges k j)
              (λ e. (mb.edges_are k j d.0 m d.1 y).1 ((from d.0 l).0 ((mb.edges_are k i d.0 n d.1 x).0 e)))
              (λ e. (mb.edges_are k i d.0 n d.1 x).1 ((from d.0 l).1 ((mb.edges_are k j d.0 m d.1 y).0 e))),
        )

    not_told : (k : ℕ) → k < length b.classes → ((has_edge b.edges i k ≢ has_edge b.edges j k) ⊎ (has_edge b.edges k i ≢ has_edge b.edges k j)) → ⊥
    not_told k h (inl f) = f (told k h).0
    not_told k h (inr f) = f (told k h).1

    one_class : (c : Bool) → (i == j) ≡ c → i ≡ j
    one_class true e = grind (arith, nat_tests, e)
    one_class false e =
        let d = mb.differ i j (in_bounds b.classes i x.0 x.1) (in_bounds b.classes j y.0 y.1) (λ s. let t : i ≡ j = s in grind (arith, nat_tests, e, t)) in
        absurd (not_told d.0 d.1 d.2)

  pub is_coarsest : IsCoarsest W E b.classes
  is_coarsest others covers uniform n m h k t =
      let x = mb.partition.covers n h in
      let y = mb.partition.covers m k in
      let to : (d : ℕ) → d < 2 ^ W → E n d ↔ E m d = λ d l. let c = covers d l in uniform t.0 c.0 n m d d t.1 t.2 c.1 c.1 in
      let from : (d : ℕ) → d < 2 ^ W → E d n ↔ E d m = λ d l. let c = covers d l in uniform c.0 t.0 d d n m c.1 c.1 t.1 t.2 in
      let e : x.0 ≡ y.0 = one_class n m to from x.0 y.0 x.1 y.1 (x.0 == y.0) refl in
      (y.0, subst (λ (z : ℕ). IsIn b.classes z n) e x.1, y.1)

  -- its edges are the same between all addresses of two classes
  pub is_uniform : IsUniform E b.classes
  is_uniform i j s t d e x y z w =
      (λ p. (mb.edges_are i j t e y w).0 ((mb.edges_are i j s d x z).1 p), λ p. (mb.edges_are i j s d x z).0 ((mb.edges_are i j t e y w).1 p))

module _ {W : ℕ} (E : ℕ → ℕ → Type 0) (a b : Matrix W) (ma : IsMatrix E a) (mb : IsMatrix E b) where
  same_classes : SameClasses a.classes b.classes
  same_classes n m t =
      is_coarsest E b mb a.classes ma.partition.covers (is_uniform E a ma) n m (in_below W a.classes t.0 n ma.partition.sets t.1) (in_below W a.classes t.0 m ma.partition.sets t.2) t

  edges_agree : a.classes ≡ b.classes → (i j : ℕ) → i < length a.classes → j < length a.classes → has_edge a.edges i j ≡ has_edge b.edges i j
  edges_agree e i j h k =
      let s = ma.partition.some i h in
      let d = ma.partition.some j k in
      let s' : IsIn b.classes i s.0 = subst (λ (z : List (List Range)). IsIn z i s.0) e s.1 in
      let d' : IsIn b.classes j d.0 = subst (λ (z : List (List Range)). IsIn z j d.0) e d.1 in
      same_truth (has_edge a.edges i j) (has_edge b.edges i j)
      (λ x. (mb.edges_are i j s.0 d.0 s' d').1 ((ma.edges_are i j s.0 d.0 s.1 d.1).0 x))
      (λ x. (ma.edges_are i j s.0 d.0 s.1 d.1).1 ((mb.edges_are i j s.0 d.0 s' d').0 x))

pub has_one : {W : ℕ} (E : ℕ → ℕ → Type 0) → HasOneMatrix W E
has_one {W} E a b ma mb =
    let classes : a.classes ≡ b.classes = one_list W a.classes b.classes (of_partition W a.classes ma.partition) (of_partition W b.classes mb.partition)
    (same_classes E a b ma mb) (same_classes E b a mb ma) in
    let square : IsSquare (length a.classes) b.edges = subst (λ (z : List (List Range)). IsSquare (length z) b.edges) (sym classes) mb.square in
    let edges : a.edges ≡ b.edges = same_edges (length a.classes) a.edges b.edges ma.square square (edges_agree E a b ma mb classes) in
    λ i. record { classes = classes i; edges = edges i }

-- so is the matrix that was made
pub coarsest_of : {W : ℕ} {F : Type 0} (E : ℕ → ℕ → Type 0) (r : Result (Matrix W) F) → IfOk r (IsMatrix E) → IfOk r (λ matrix. IsCoarsest W E matrix.classes)
coarsest_of {W} E r h = IfOk-weaker r _ _ (λ matrix is. is_coarsest E matrix is) h
