-- Rows of which no two have both texts equal.
use Rattle.std.proofs.Common.{rules, ◌≡◌, ℕ, ◌<◌, Bool, true, not, ◌&&◌, List, [], ◌∷◌, length, get_or, map, subst, arith}
use Rattle.std.specs.List.{list_all, AllPairs}
use Rattle.std.specs.Str.{bytes_eq}
use Rattle.std.proofs.lemmas.Bool.{and_parts}
use Rattle.std.proofs.lemmas.Slice.Eq.{bytes_eq-Decides}
use Rattle.std.proofs.lemmas.List.{get_or-map, length-map}
use Rattle.std.proofs.lemmas.List.Kept.{AllPairs-cons}
use Rattle.std.proofs.lemmas.List.Sums.{AllPass-from_list_all}
use Rattle.opt_table.specs.declared.Row.{Row}
use Rattle.opt_table.specs.Options.{Spelling}
use Rattle.opt_table.specs.Rows.{spelling_of, HasOtherTexts}

-- equal texts are told to be equal
same_text : (xs ys : List ℕ) → xs ≡ ys → bytes_eq xs ys ≡ true
same_text xs ys e = search (rules, bytes_eq-Decides)

abbrev pub differ : Spelling → Spelling → Bool
differ a b = not (bytes_eq a.name b.name && bytes_eq a.option b.option)

abbrev pub all_differ : List Spelling → Bool
all_differ [] = true
all_differ (x ∷ xs) = list_all (differ x) xs && all_differ xs

each : (xs : List Spelling) → all_differ xs ≡ true → AllPairs (λ a b. differ a b ≡ true) xs
each [] e = λ i j d l m. absurd (omega arith)
each (x ∷ xs) e =
    let parts : (list_all (differ x) xs ≡ true) × (all_differ xs ≡ true) = and_parts _ _ e in
    AllPairs-cons (λ a b. differ a b ≡ true) x xs (AllPass-from_list_all (differ x) xs parts.0) (each xs parts.1)

others : (a b : Row) → differ (spelling_of a) (spelling_of b) ≡ true → HasOtherTexts a b
others a b e = λ m o.
    let name : bytes_eq a.«module».now b.«module».now ≡ true = same_text _ _ m in
    let option : bytes_eq a.option.now b.option.now ≡ true = same_text _ _ o in
    let both : not (true && true) ≡ true = subst (λ t. not (t && true) ≡ true) name (subst (λ t. not (bytes_eq a.«module».now b.«module».now && t) ≡ true) option e) in
    cc

pub distinct : (rows : List Row) → all_differ (map spelling_of rows) ≡ true → AllPairs HasOtherTexts rows
distinct rows e = λ i j d l m.
    let before : i < length rows = omega arith in
    let inside : j < length (map spelling_of rows) = rw length-map m in
    others (get_or rows i d) (get_or rows j d)
    (subst (λ s. differ s (spelling_of (get_or rows j d)) ≡ true) (get_or-map spelling_of rows i d (spelling_of d) before)
    (subst (λ s. differ (get_or (map spelling_of rows) i (spelling_of d)) s ≡ true) (get_or-map spelling_of rows j d (spelling_of d) m)
    (each (map spelling_of rows) e i j (spelling_of d) l inside)))
