-- Facts on "and", "or" and truth values.
use Rattle.std.proofs.Common.{◌≡◌, Bool, true, false, ◌&&◌, ◌||◌, ◌⊎◌, refl, inl, inr}

pub clash : (b : Bool) → b ≡ true → b ≡ false → ⊥
clash b p q = cc

pub and_false : (a : Bool) → (a && false) ≡ false
and_false true = refl
and_false false = refl

pub and_true : (a b : Bool) → b ≡ true → (a && b) ≡ a
and_true true b e = e
and_true false b e = refl

pub and_one : (a : Bool) → a ≡ (a && true)
and_one true = refl
and_one false = refl

pub and_assoc : (a b c : Bool) → ((a && b) && c) ≡ (a && (b && c))
and_assoc true b c = refl
and_assoc false b c = refl

pub all_true : (a b : Bool) → a ≡ true → b ≡ true → (a && b) ≡ true
all_true true b p q = q
all_true false b p q = cc

pub both_true : (a b : Bool) → (a && b) ≡ true → (a ≡ true) × (b ≡ true)
both_true true b e = (refl, e)
both_true false b e = let f : false ≡ true = e in absurd (cc f)

pub or_left : (a b : Bool) → a ≡ true → (a || b) ≡ true
or_left true b e = refl
or_left false b e = cc

pub or_right : (a b : Bool) → b ≡ true → (a || b) ≡ true
or_right true b e = refl
or_right false b e = e

pub or_false : (a b : Bool) → (a || b) ≡ false → (a ≡ false) × (b ≡ false)
or_false true b e = let f : true ≡ false = e in absurd (cc f)
or_false false b e = (refl, e)

pub or_true : (a b : Bool) → (a || b) ≡ true → (a ≡ true) ⊎ (b ≡ true)
or_true true b e = inl refl
or_true false b e = inr e

-- two truth values of which each follows from the other are one
pub same_truth : (a b : Bool) → (a ≡ true → b ≡ true) → (b ≡ true → a ≡ true) → a ≡ b
same_truth true b f g = let h = f refl in cc
same_truth false true f g = let h = g refl in cc
same_truth false false f g = refl
