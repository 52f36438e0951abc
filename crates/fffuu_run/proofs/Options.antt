-- What an option has is one thing.
use Rattle.std.proofs.Common.{◌≡◌, Option, None, Some}

pub one_some : {A : Type 0} (o : Option A) (x y : A) → o ≡ Some x → o ≡ Some y → x ≡ y
one_some o x y a b = cc

pub none_or_some : {A : Type 0} (o : Option A) (x : A) → o ≡ None → o ≡ Some x → ⊥
none_or_some o x a b = cc
