-- A text that was begun keeps what stood before it.
use Rattle.std.proofs.Common.{◌≡◌, ◌++◌, ℕ, List, [], ◌∷◌, take, length, refl}

pub keeps_front : (old more new : List ℕ) → take (length (old ++ more)) new ≡ old ++ more → take (length old) new ≡ old
keeps_front [] more new h = refl
keeps_front (x ∷ old) more [] h = let wrong : [] ≡ x ∷ (old ++ more) = h in cc
keeps_front (x ∷ old) more (y ∷ new) h =
    let first : y ≡ x = cc in
    let rest : take (length (old ++ more)) new ≡ old ++ more = cc in
    let ih = keeps_front old more new rest in cc
