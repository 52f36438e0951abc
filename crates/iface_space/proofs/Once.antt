-- Patterns that are added one by one where they aren't there yet are those of the whole list, each once.
use Rattle.std.proofs.Common.{ℕ, ◌≡◌, ◌&&◌, Bool, true, false, not, List, [], ◌∷◌, ◌++◌, arith, refl, sym, ap, ◌∙◌, append_assoc}
use Rattle.std.specs.Prelude.{if◌then◌else◌}
use Rattle.std.specs.List.{list_any, filter, fold}
use Rattle.std.proofs.lemmas.List.{append-nil}
use Rattle.std.proofs.lemmas.List.Folds.{list_any-append}
use Rattle.std.proofs.lemmas.Slice.Eq.{bytes_eq-Decides}
use Rattle.name_set.specs.declared.pattern.Pattern.{Pattern}
use Rattle.iface_space.specs.Tested.{same_pattern, once_each}
use Rattle.iface_space.specs.inner.Adding.{with_new}

same_is : (a b : Pattern) → same_pattern a b ≡ true → a ≡ b
same_is (Pattern.Exact a) (Pattern.Exact b) e = ap (λ (t : List ℕ). Pattern.Exact t) ((bytes_eq-Decides a b).0 e)
same_is (Pattern.Exact a) (Pattern.Prefix b) e = absurd (cc)
same_is (Pattern.Prefix a) (Pattern.Exact b) e = absurd (cc)
same_is (Pattern.Prefix a) (Pattern.Prefix b) e = ap (λ (t : List ℕ). Pattern.Prefix t) ((bytes_eq-Decides a b).0 e)

-- a filter of a filter
filter_both : {X : Type 0} (p q r : X → Bool) → ((x : X) → r x ≡ (p x && q x)) → (xs : List X) → filter p (filter q xs) ≡ filter r xs
filter_both p q r e [] = refl
filter_both p q r e (x ∷ xs) = let ih = filter_both p q r e xs in let k = e x in grind (arith, ih, k)

all_pass : {X : Type 0} (p : X → Bool) (xs : List X) → ((x : X) → p x ≡ true) → filter p xs ≡ xs
all_pass p [] e = refl
all_pass p (x ∷ xs) e = let ih = all_pass p xs e in let k = e x in grind (arith, ih, k)

-- not among the found ones
abbrev fresh : List Pattern → Pattern → Bool
fresh found by = not (list_any (same_pattern by) found)

-- what is left out as one that was found may be left out as equal to this one before
old_left : (found : List Pattern) (by other : Pattern) → list_any (same_pattern by) found ≡ true →
    fresh found other ≡ (fresh found other && not (same_pattern other by))
old_left found by other h =
    let f : same_pattern other by ≡ true → list_any (same_pattern other) found ≡ true =
    λ e. ap (λ (x : Pattern). list_any (same_pattern x) found) (same_is other by e) ∙ h in
    grind (arith, f)

-- what is left out after one more was found is what was left out before, and what is equal to it
new_left : (found : List Pattern) (by other : Pattern) →
    fresh (found ++ by ∷ []) other ≡ (fresh found other && not (same_pattern other by))
new_left found by other = let e = list_any-append (same_pattern other) found (by ∷ []) in grind (arith, e)

added : (c : Bool) (found : List Pattern) (by : Pattern) (patterns : List Pattern) → list_any (same_pattern by) found ≡ c →
    ((more : List Pattern) → fold with_new more patterns ≡ more ++ filter (fresh more) (once_each patterns)) →
    fold with_new (if c then found else found ++ by ∷ []) patterns
    ≡ found ++ filter (fresh found) (by ∷ filter (λ other. not (same_pattern other by)) (once_each patterns))
added true found by patterns h ih =
    let both = filter_both (fresh found) (λ other. not (same_pattern other by)) (fresh found) (λ other. old_left found by other h) (once_each patterns) in
    let first : fresh found by ≡ false = ap not h in
    let i = ih found in
    i ∙ ap (λ (xs : List Pattern). found ++ xs) (sym both)
    ∙ ap (λ (b : Bool). found ++ (if b then by ∷ filter (fresh found) (filter (λ other. not (same_pattern other by)) (once_each patterns))
    else filter (fresh found) (filter (λ other. not (same_pattern other by)) (once_each patterns)))) (sym first)
added false found by patterns h ih =
    let both = filter_both (fresh found) (λ other. not (same_pattern other by)) (fresh (found ++ by ∷ []))
    (λ other. new_left found by other) (once_each patterns) in
    let first : fresh found by ≡ true = ap not h in
    ih (found ++ by ∷ [])
    ∙ append_assoc found (by ∷ []) (filter (fresh (found ++ by ∷ [])) (once_each patterns))
    ∙ ap (λ (xs : List Pattern). found ++ by ∷ xs) (sym both)
    ∙ ap (λ (b : Bool). found ++ (if b then by ∷ filter (fresh found) (filter (λ other. not (same_pattern other by)) (once_each patterns))
    else filter (fresh found) (filter (λ other. not (same_pattern other by)) (once_each patterns)))) (sym first)

from_found : (found patterns : List Pattern) → fold with_new found patterns ≡ found ++ filter (fresh found) (once_each patterns)
from_found found [] = sym (append-nil found)
from_found found (by ∷ patterns) = added (list_any (same_pattern by) found) found by patterns refl (λ more. from_found more patterns)

pub all_once : (patterns : List Pattern) → fold with_new [] patterns ≡ once_each patterns
all_once patterns = from_found [] patterns ∙ all_pass (fresh []) (once_each patterns) (λ by. refl)
