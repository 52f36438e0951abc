-- Names as keys of a set, and as bytes.
use Rattle.std.proofs.Common.{suc, ◌≡◌, ℕ, ◌+◌, Bool, true, false, not, cond, ◌||◌, List, [], ◌∷◌, ◌++◌, length, map, None, Some, refl, ap, arith}
use Rattle.std.specs.Prelude.{position, nat_eq, nat_lt}
use Rattle.std.specs.List.{position_or_len, list_any, AllByRecursion, IsDistinct}
use Rattle.std.specs.Str.{bytes_eq}
use Rattle.std.specs.Cmp.Lexicographic.{pointwise}
use Rattle.std.proofs.lemmas.Bool.Decides.{nat_tests}
use Rattle.std.specs.declared.vec.Vec.{Vec}

module _ {A : Type 0} where
  len_same : (f : List ℕ → Bool) (ks : List (Vec ℕ A)) → position_or_len (λ k. f k.items) ks ≡ position_or_len f (map (λ k. k.items) ks)
  len_same f [] = refl
  len_same f (k ∷ ks) = ap (λ n. cond (not (f k.items)) (1 + n) 0) (len_same f ks)

  pub length_same : (ks : List (Vec ℕ A)) → length ks ≡ length (map (λ (k : Vec ℕ A). k.items) ks)
  length_same [] = refl
  length_same (k ∷ ks) = ap (λ n. suc n) (length_same ks)

  -- a search among keys is one among their bytes
  pub position-items : (f : List ℕ → Bool) (ks : List (Vec ℕ A)) → position (λ k. f k.items) ks ≡ position f (map (λ k. k.items) ks)
  position-items f ks = λ i. cond (nat_lt (len_same f ks i) (length_same ks i)) (Some (len_same f ks i)) None

  -- what no name passes, no key passes
  pub none-any : (f : List ℕ → Bool) (ks : List (Vec ℕ A)) → position f (map (λ k. k.items) ks) ≡ None → list_any (λ k. f k.items) ks ≡ false
  none-any f [] h = refl
  none-any f (k ∷ ks) h = by (f k.items) refl (none-any f ks)
    where
      by : (t : Bool) → f k.items ≡ t → (position f (map (λ k. k.items) ks) ≡ None → list_any (λ k. f k.items) ks ≡ false) → (f k.items || list_any (λ k. f k.items) ks) ≡ false
      by true e more = absurd (grind (arith, nat_tests, e, h))
      by false e more =
          let rest : position f (map (λ k. k.items) ks) ≡ None = grind (arith, nat_tests, e, h) in
          rw (e, more rest) refl

  pub map-appended : (ks : List (Vec ℕ A)) (k : Vec ℕ A) → map (λ (k : Vec ℕ A). k.items) (ks ++ k ∷ []) ≡ map (λ (k : Vec ℕ A). k.items) ks ++ k.items ∷ []
  map-appended [] k = refl
  map-appended (x ∷ ks) k = ap (λ z. x.items ∷ z) (map-appended ks k)

  others : (x : List ℕ) (ks : List (Vec ℕ A)) → AllByRecursion (λ y. pointwise nat_eq x y.items ≡ false) ks → AllByRecursion (λ y. bytes_eq x y ≡ false) (map (λ (k : Vec ℕ A). k.items) ks)
  others x [] h = tt
  others x (k ∷ ks) h = (h.0, others x ks h.1)

  -- keys that differ are names that differ
  pub distinct-items : (ks : List (Vec ℕ A)) → IsDistinct (λ x y. pointwise nat_eq x.items y.items) ks → IsDistinct bytes_eq (map (λ (k : Vec ℕ A). k.items) ks)
  unfolding IsDistinct
  distinct-items [] h = tt
  distinct-items (k ∷ ks) h = (others k.items ks h.0, distinct-items ks h.1)
