-- A list from one of its items on.
use Rattle.std.proofs.Common.{◌≡◌, ℕ, ◌+◌, ◌<◌, List, ◌∷◌, ◌∙◌, ap, sym, length, get_or, drop, drop-cons, add-one, subst}
use Rattle.std.specs.List.{AllByRecursion}

pub drop_at : {X : Type 0} (xs : List X) (i : ℕ) (d : X) → i < length xs → drop i xs ≡ get_or xs i d ∷ drop (i + 1) xs
drop_at xs i d h = rw add-one (drop-cons xs i d h)

-- where the item is known
pub drop_item : {X : Type 0} (xs : List X) (i : ℕ) (x : X) → i < length xs → x ≡ get_or xs i x → drop i xs ≡ x ∷ drop (i + 1) xs
drop_item xs i x h is = drop_at xs i x h ∙ ap (λ y. y ∷ drop (i + 1) xs) (sym is)

-- what holds of each item from this one on, where it holds of each from the next on
pub each_passed : {X : Type 0} (P : X → Type 0) (xs : List X) (i : ℕ) (x : X) → i < length xs → x ≡ get_or xs i x → P x →
    (AllByRecursion P (drop i xs) → AllByRecursion P xs) → AllByRecursion P (drop (i + 1) xs) → AllByRecursion P xs
each_passed P xs i x h is p all rest = all (subst (AllByRecursion P) (sym (drop_item xs i x h is)) (p, rest))
