-- Truths, and whether some element of a list passes.
use Rattle.std.proofs.Common.{◌≡◌, List, [], ◌∷◌, Bool, true, false, ◌&&◌, ◌||◌, map, refl, ◌∙◌, ap}
use Rattle.std.specs.List.{flat_map, list_any}
use Rattle.std.proofs.lemmas.List.Folds.{list_any-append}

pub and_true : (a : Bool) → (a && true) ≡ a
and_true true = refl
and_true false = refl

pub or_false : (a : Bool) → (a || false) ≡ a
or_false true = refl
or_false false = refl

pub or_assoc : (a b c : Bool) → (a || (b || c)) ≡ ((a || b) || c)
or_assoc true b c = refl
or_assoc false b c = refl

one_more : (a b c : Bool) → ((a && c) || (b && c)) ≡ ((a || b) && c)
one_more true true true = refl
one_more true true false = refl
one_more true false true = refl
one_more true false false = refl
one_more false b c = refl

module _ {X : Type 0} where
  pub any_same : (f g : X → Bool) (xs : List X) → ((x : X) → f x ≡ g x) → list_any f xs ≡ list_any g xs
  any_same f g [] e = refl
  any_same f g (x ∷ xs) e = λ i. e x i || any_same f g xs e i

  -- what is the same for each element goes out
  pub any_and : (f : X → Bool) (c : Bool) (xs : List X) → list_any (λ x. f x && c) xs ≡ (list_any f xs && c)
  any_and f c [] = refl
  any_and f c (x ∷ xs) = ap (λ b. (f x && c) || b) (any_and f c xs) ∙ one_more (f x) (list_any f xs) c

  pub any_never : (xs : List X) → list_any (λ x. false) xs ≡ false
  any_never [] = refl
  any_never (x ∷ xs) = any_never xs

  pub any_under : (c : Bool) (f : X → Bool) (xs : List X) → list_any (λ x. c && f x) xs ≡ (c && list_any f xs)
  any_under true f xs = refl
  any_under false f xs = any_never xs

module _ {X Y : Type 0} (f : Y → Bool) where
  pub any_map : (g : X → Y) (xs : List X) → list_any f (map g xs) ≡ list_any (λ x. f (g x)) xs
  any_map g [] = refl
  any_map g (x ∷ xs) = ap (λ b. f (g x) || b) (any_map g xs)

  pub any_flat : (g : X → List Y) (xs : List X) → list_any f (flat_map g xs) ≡ list_any (λ x. list_any f (g x)) xs
  any_flat g [] = refl
  any_flat g (x ∷ xs) = list_any-append f (g x) (flat_map g xs) ∙ ap (λ b. list_any f (g x) || b) (any_flat g xs)
