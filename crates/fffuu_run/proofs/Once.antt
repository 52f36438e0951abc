-- Names that are added one by one where they aren't there yet are those of the whole list, each once.
use Rattle.std.proofs.Common.{ℕ, ◌≡◌, ◌&&◌, Bool, true, false, not, List, [], ◌∷◌, ◌++◌, arith, refl, sym, ap, ◌∙◌, append_assoc}
use Rattle.std.specs.Prelude.{if◌then◌else◌}
use Rattle.std.specs.List.{list_any, filter, fold}
use Rattle.std.specs.Str.{bytes_eq}
use Rattle.std.proofs.lemmas.List.{append-nil}
use Rattle.std.proofs.lemmas.List.Folds.{list_any-append}
use Rattle.std.proofs.lemmas.Slice.Eq.{bytes_eq-Decides}
use Rattle.fffuu_run.specs.Spaces.{once_each}

-- these names and one more, where it isn't among them
abbrev pub with_name : List (List ℕ) → List ℕ → List (List ℕ)
with_name found name = if list_any (bytes_eq name) found then found else found ++ name ∷ []

-- a filter of a filter
filter_both : {X : Type 0} (p q r : X → Bool) → ((x : X) → r x ≡ (p x && q x)) → (xs : List X) → filter p (filter q xs) ≡ filter r xs
filter_both p q r e [] = refl
filter_both p q r e (x ∷ xs) = let ih = filter_both p q r e xs in let k = e x in grind (arith, ih, k)

all_pass : {X : Type 0} (p : X → Bool) (xs : List X) → ((x : X) → p x ≡ true) → filter p xs ≡ xs
all_pass p [] e = refl
all_pass p (x ∷ xs) e = let ih = all_pass p xs e in let k = e x in grind (arith, ih, k)

-- not among the found ones
abbrev fresh : List (List ℕ) → (List ℕ) → Bool
fresh found name = not (list_any (bytes_eq name) found)

-- what is left out as one that was found may be left out as equal to this one before
old_left : (found : List (List ℕ)) (name other : (List ℕ)) → list_any (bytes_eq name) found ≡ true →
    fresh found other ≡ (fresh found other && not (bytes_eq other name))
old_left found name other h =
    let f : bytes_eq other name ≡ true → list_any (bytes_eq other) found ≡ true =
    λ e. ap (λ (x : (List ℕ)). list_any (bytes_eq x) found) ((bytes_eq-Decides other name).0 e) ∙ h in
    grind (arith, f)

-- what is left out after one more was found is what was left out before, and what is equal to it
new_left : (found : List (List ℕ)) (name other : (List ℕ)) →
    fresh (found ++ name ∷ []) other ≡ (fresh found other && not (bytes_eq other name))
new_left found name other = let e = list_any-append (bytes_eq other) found (name ∷ []) in grind (arith, e)

added : (c : Bool) (found : List (List ℕ)) (name : (List ℕ)) (names : List (List ℕ)) → list_any (bytes_eq name) found ≡ c →
    ((more : List (List ℕ)) → fold with_name more names ≡ more ++ filter (fresh more) (once_each names)) →
    fold with_name (if c then found else found ++ name ∷ []) names
    ≡ found ++ filter (fresh found) (name ∷ filter (λ other. not (bytes_eq other name)) (once_each names))
added true found name names h ih =
    let both = filter_both (fresh found) (λ other. not (bytes_eq other name)) (fresh found) (λ other. old_left found name other h) (once_each names) in
    let first : fresh found name ≡ false = ap not h in
    let i = ih found in
    i ∙ ap (λ (xs : List (List ℕ)). found ++ xs) (sym both)
    ∙ ap (λ (b : Bool). found ++ (if b then name ∷ filter (fresh found) (filter (λ other. not (bytes_eq other name)) (once_each names))
    else filter (fresh found) (filter (λ other. not (bytes_eq other name)) (once_each names)))) (sym first)
added false found name names h ih =
    let both = filter_both (fresh found) (λ other. not (bytes_eq other name)) (fresh (found ++ name ∷ []))
    (λ other. new_left found name other) (once_each names) in
    let first : fresh found name ≡ true = ap not h in
    ih (found ++ name ∷ [])
    ∙ append_assoc found (name ∷ []) (filter (fresh (found ++ name ∷ [])) (once_each names))
    ∙ ap (λ (xs : List (List ℕ)). found ++ name ∷ xs) (sym both)
    ∙ ap (λ (b : Bool). found ++ (if b then name ∷ filter (fresh found) (filter (λ other. not (bytes_eq other name)) (once_each names))
    else filter (fresh found) (filter (λ other. not (bytes_eq other name)) (once_each names)))) (sym first)

from_found : (found names : List (List ℕ)) → fold with_name found names ≡ found ++ filter (fresh found) (once_each names)
from_found found [] = sym (append-nil found)
from_found found (name ∷ names) = added (list_any (bytes_eq name) found) found name names refl (λ more. from_found more names)

pub all_once : (names : List (List ℕ)) → fold with_name [] names ≡ once_each names
all_once names = from_found [] names ∙ all_pass (fresh []) (once_each names) (λ name. refl)
