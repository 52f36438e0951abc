-- Facts on lists, and on what holds of each element.
use Rattle.std.proofs.Common.{◌≡◌, ◌<◌, ◌++◌, ℕ, zero, suc, List, [], ◌∷◌, Bool, true, false, map, length, None, Some, slice_get, Contains, refl, ap, subst, arith}
use Rattle.std.specs.Prelude.{filter, if◌then◌else◌}
use Rattle.std.specs.List.{AllByRecursion}

pub head_same : {A : Type 0} (a b : A) (xs ys : List A) → a ∷ xs ≡ b ∷ ys → a ≡ b
head_same a b xs ys e = cc

pub tail_same : {A : Type 0} (a b : A) (xs ys : List A) → a ∷ xs ≡ b ∷ ys → xs ≡ ys
tail_same a b xs ys e = cc

pub no_cons : {A : Type 0} (xs : List A) (x : A) (ys : List A) → xs ++ x ∷ ys ≡ [] → ⊥
no_cons [] x ys e = cc
no_cons (y ∷ xs) x ys e = cc

pub in_bounds : {X : Type 0} (xs : List X) (i : ℕ) (x : X) → slice_get xs i ≡ Some x → i < length xs
in_bounds [] i x e = let f : None ≡ Some x = e in absurd (cc f)
in_bounds (y ∷ xs) zero x e = omega arith
in_bounds (y ∷ xs) (suc i) x e = let h = in_bounds xs i x e in omega (arith, h)

pub map_map : {X Y Z : Type 0} (f : Y → Z) (g : X → Y) (xs : List X) → map f (map g xs) ≡ map (λ x. f (g x)) xs
map_map f g [] = refl
map_map f g (x ∷ xs) = ap (λ l. f (g x) ∷ l) (map_map f g xs)

-- what stands at a place of a mapped list
pub map_place : {X Y : Type 0} (g : X → Y) (xs : List X) (i : ℕ) (y : Y) → slice_get (map g xs) i ≡ Some y → (x : X) × (slice_get xs i ≡ Some x) × (g x ≡ y)
map_place g [] i y e = let f : None ≡ Some y = e in absurd (cc f)
map_place g (x ∷ xs) zero y e = (x, refl, cc (e))
map_place g (x ∷ xs) (suc i) y e = map_place g xs i y e

-- what a mapped list contains
pub map_contains : {X Y : Type 0} (g : X → Y) (xs : List X) (y : Y) → Contains (map g xs) y → (x : X) × Contains xs x × (g x ≡ y)
map_contains g [] y (i, less, at) = absurd (omega (arith, less))
map_contains g (x ∷ xs) y (zero, less, at) = (x, (zero, omega arith, refl), at)
map_contains g (x ∷ xs) y (suc i, less, at) = let t = map_contains g xs y (i, omega (arith, less), at) in (t.0, (suc (t.1).0, let l = (t.1).1 in omega (arith, l), (t.1).2), t.2)

-- two lists one after another, and each of them
pub each_append : {X : Type 0} (Q : X → Type 0) (a b : List X) → AllByRecursion Q a → AllByRecursion Q b → AllByRecursion Q (a ++ b)
each_append Q [] b x y = y
each_append Q (e ∷ a) b x y = (x.0, each_append Q a b x.1 y)

pub each_left : {X : Type 0} (Q : X → Type 0) (a b : List X) → AllByRecursion Q (a ++ b) → AllByRecursion Q a
each_left Q [] b h = tt
each_left Q (x ∷ a) b h = (h.0, each_left Q a b h.1)

pub each_right : {X : Type 0} (Q : X → Type 0) (a b : List X) → AllByRecursion Q (a ++ b) → AllByRecursion Q b
each_right Q [] b h = h
each_right Q (x ∷ a) b h = each_right Q a b h.1

pub each_more : {X : Type 0} (Q : X → Type 0) (xs : List X) (x : X) → AllByRecursion Q xs → Q x → AllByRecursion Q (xs ++ x ∷ [])
each_more Q xs x h q = each_append Q xs (x ∷ []) h (q, tt)

-- what follows of each element
pub each_weaker : {X : Type 0} (Q R : X → Type 0) → ((x : X) → Q x → R x) → (xs : List X) → AllByRecursion Q xs → AllByRecursion R xs
each_weaker Q R f [] h = tt
each_weaker Q R f (x ∷ xs) h = (f x h.0, each_weaker Q R f xs h.1)

pub each_both : {X : Type 0} (Q R S : X → Type 0) → ((x : X) → Q x → R x → S x) → (xs : List X) → AllByRecursion Q xs → AllByRecursion R xs → AllByRecursion S xs
each_both Q R S f [] h k = tt
each_both Q R S f (x ∷ xs) h k = (f x h.0 k.0, each_both Q R S f xs h.1 k.1)

pub each_map : {X Y : Type 0} (Q : Y → Type 0) (f : X → Y) (xs : List X) → AllByRecursion (λ x. Q (f x)) xs → AllByRecursion Q (map f xs)
each_map Q f [] h = tt
each_map Q f (x ∷ xs) h = (h.0, each_map Q f xs h.1)

pub each_filter : {X : Type 0} (Q : X → Type 0) (keep : X → Bool) (xs : List X) → AllByRecursion Q xs → AllByRecursion Q (filter keep xs)
each_filter Q keep [] h = tt
each_filter Q keep (x ∷ xs) h = kept (keep x) (each_filter Q keep xs h.1)
  where
    kept : (b : Bool) → AllByRecursion Q (filter keep xs) → AllByRecursion Q (if b then x ∷ filter keep xs else filter keep xs)
    kept true k = (h.0, k)
    kept false k = k

-- of each element that a list contains, and at each place
pub each_contained : {X : Type 0} (Q : X → Type 0) (xs : List X) → ((x : X) → Contains xs x → Q x) → AllByRecursion Q xs
each_contained Q [] f = tt
each_contained Q (x ∷ xs) f = (f x (zero, omega arith, refl), each_contained Q xs (λ y c. f y (suc c.0, omega (arith, c.1), c.2)))

pub contained : {X : Type 0} (Q : X → Type 0) (xs : List X) (x : X) → AllByRecursion Q xs → Contains xs x → Q x
contained Q [] x h (i, less, at) = absurd (omega (arith, less))
contained Q (y ∷ xs) x h (zero, less, at) = subst Q at h.0
contained Q (y ∷ xs) x h (suc i, less, at) = contained Q xs x h.1 (i, omega (arith, less), at)

pub each_placed : {X : Type 0} (Q : X → Type 0) (xs : List X) → ((i : ℕ) (x : X) → slice_get xs i ≡ Some x → Q x) → AllByRecursion Q xs
each_placed Q [] f = tt
each_placed Q (x ∷ xs) f = (f 0 x refl, each_placed Q xs (λ i y e. f (suc i) y e))

pub each_at : {X : Type 0} (Q : X → Type 0) (xs : List X) (i : ℕ) (x : X) → AllByRecursion Q xs → slice_get xs i ≡ Some x → Q x
each_at Q [] i x h e = let f : None ≡ Some x = e in absurd (cc f)
each_at Q (y ∷ xs) zero x h e = let same : y ≡ x = cc in subst Q same h.0
each_at Q (y ∷ xs) (suc i) x h e = each_at Q xs i x h.1 e
