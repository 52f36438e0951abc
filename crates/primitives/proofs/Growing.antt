-- A text that grows piece by piece.
use Rattle.std.proofs.Common.{◌≡◌, ◌∙◌, ◌++◌, ℕ, List, Result, Ok, Err, OnOk, is_ok, if◌then◌else◌, ap, sym, append_assoc}

-- one piece more
pub grown : {A : Type 0} (old more mid piece new total : List A) → mid ≡ old ++ more → new ≡ mid ++ piece → total ≡ more ++ piece → new ≡ old ++ total
grown old more mid piece new total a b e =
    b ∙ ap (λ l. l ++ piece) a ∙ append_assoc old more piece ∙ ap (λ l. old ++ l) (sym e)

-- a text that was put behind another one
pub extended : {T E : Type 0} (r : Result T E) (old mid new piece total : List ℕ) → new ≡ (if is_ok r then mid ++ piece else mid) → mid ≡ old → piece ≡ total →
    OnOk r (new ≡ old ++ total)
extended (Ok x) old mid new piece total h k e = h ∙ (λ i. k i ++ e i)
extended (Err x) old mid new piece total h k e = tt
