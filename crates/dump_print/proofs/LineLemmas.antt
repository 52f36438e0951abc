-- Rule lines, one after another.
use Rattle.std.proofs.Common.{◌≡◌, ◌∙◌, ◌++◌, ◌+◌, ◌<◌, ◌≤◌, ℕ, zero, suc, List, [], ◌∷◌, codes, length, map, take, get_or, refl, ap, sym, append_assoc, arith}
use Rattle.std.proofs.lemmas.List.{append-nil, take_all, take_more}
use Rattle.std.proofs.lemmas.List.Concat.{flat_map-append}
use Rattle.std.specs.List.{flat_map}
use Rattle.interval_set.specs.declared.set.Range.{Range}
use Rattle.interval_set.specs.Numbers.{Ascends}
use Rattle.dump_grammar.specs.Lines.{Text, Word, bare}
use Rattle.dump_print.specs.declared.flags.FlagCube.{FlagCube}
use Rattle.dump_print.specs.Parts.{Choice, option_words, rule_words, with_flags}
use Rattle.dump_print.specs.Spelling.{line_text, lines_text, spaced}
use Rattle.dump_print.proofs.SpacedLemmas.{spaced_joined}
use Rattle.primitives.proofs.Growing.{grown}
use Rattle.dump_print.proofs.Steps.{flat_more}

-- ---- one line
regroup : (old a c p o n : List ℕ) → ((old ++ (a ++ c)) ++ p) ++ (o ++ n) ≡ old ++ (a ++ ((c ++ (p ++ o)) ++ n))
regroup old a c p o n = simp append_assoc

words_spaced : (first : Word) (parts last : List Word) → spaced (first ∷ (parts ++ last)) ≡ spaced (first ∷ []) ++ (spaced parts ++ spaced last)
words_spaced first parts last = spaced_joined (first ∷ []) (parts ++ last) ∙ ap (λ s. spaced (first ∷ []) ++ s) (spaced_joined parts last)

-- the beginning, the parts and the end
pub rule_line : (chain target : Text) (parts : List Word) (old begun mid new : List ℕ) → begun ≡ old ++ (codes "-A" ++ spaced (bare chain ∷ [])) →
    mid ≡ begun ++ spaced parts → new ≡ mid ++ (spaced (option_words (codes "-j") (bare target)) ++ 10 ∷ []) →
    new ≡ old ++ line_text (rule_words chain parts target)
rule_line chain target parts old begun mid new h k e =
    let last = option_words (codes "-j") (bare target) in
    e ∙ ap (λ s. s ++ (spaced last ++ 10 ∷ [])) (k ∙ ap (λ s. s ++ spaced parts) h)
    ∙ regroup old (codes "-A") (spaced (bare chain ∷ [])) (spaced parts) (spaced last) (10 ∷ [])
    ∙ ap (λ s. old ++ (codes "-A" ++ (s ++ 10 ∷ []))) (sym (words_spaced (bare chain) parts last))

-- ---- lines
pub lines_joined : (a b : List (List Word)) → lines_text (a ++ b) ≡ lines_text a ++ lines_text b
lines_joined a b = flat_map-append line_text a b

-- lines after lines
pub lines_grown : (a b : List (List Word)) (old mid new : List ℕ) → mid ≡ old ++ lines_text a → new ≡ mid ++ lines_text b → new ≡ old ++ lines_text (a ++ b)
lines_grown a b old mid new h k = grown old (lines_text a) mid (lines_text b) new _ h k (lines_joined a b)

pub lines_one : (line : List Word) → lines_text (line ∷ []) ≡ line_text line
lines_one line = append-nil (line_text line)

map_joined : {X Y : Type 0} (f : X → Y) (a b : List X) → map f (a ++ b) ≡ map f a ++ map f b
map_joined f [] b = refl
map_joined f (x ∷ a) b = ap (λ l. f x ∷ l) (map_joined f a b)

map_more : {X Y : Type 0} (f : X → Y) (xs : List X) (i : ℕ) (d : X) → i < length xs → map f (take (i + 1) xs) ≡ map f (take i xs) ++ f (get_or xs i d) ∷ []
map_more f xs i d l = ap (map f) (take_more xs i d l) ∙ map_joined f (take i xs) (get_or xs i d ∷ [])

-- the line of one item more
pub line_more : {X : Type 0} (f : X → List Word) (xs : List X) (i : ℕ) (d : X) (old mid new : List ℕ) → i < length xs →
    mid ≡ old ++ lines_text (map f (take i xs)) → new ≡ mid ++ line_text (f (get_or xs i d)) → new ≡ old ++ lines_text (map f (take (i + 1) xs))
line_more f xs i d old mid new l h k =
    lines_grown (map f (take i xs)) (f (get_or xs i d) ∷ []) old mid new h (k ∙ ap (λ s. mid ++ s) (sym (lines_one (f (get_or xs i d)))))
    ∙ ap (λ ls. old ++ lines_text ls) (sym (map_more f xs i d l))

-- the same, where the item has a name
pub item_more : {X : Type 0} (f : X → List Word) (xs : List X) (i : ℕ) (x : X) (old mid new : List ℕ) → i < length xs → x ≡ get_or xs i x →
    mid ≡ old ++ lines_text (map f (take i xs)) → new ≡ mid ++ line_text (f x) → new ≡ old ++ lines_text (map f (take (i + 1) xs))
item_more f xs i x old mid new l is h k = line_more f xs i x old mid new l h (k ∙ ap (λ y. mid ++ line_text (f y)) is)

-- the line of one cube of flags more
pub flags_more : (words : Choice → List Word) (line : Choice) (xs : List FlagCube) (i : ℕ) (d : FlagCube) (old mid new : List ℕ) → i < length xs →
    mid ≡ old ++ lines_text (map words (with_flags line (take i xs))) → new ≡ mid ++ line_text (words (record line { flags = get_or xs i d })) →
    new ≡ old ++ lines_text (map words (with_flags line (take (i + 1) xs)))
flags_more words line xs i d old mid new l h k =
    let last : Choice = record line { flags = get_or xs i d } in
    lines_grown (map words (with_flags line (take i xs))) (words last ∷ []) old mid new h (k ∙ ap (λ s. mid ++ s) (sym (lines_one (words last))))
    ∙ ap (λ ls. old ++ lines_text ls)
    (sym (ap (map words) (map_more (λ cube. record line { flags = cube }) xs i d l) ∙ map_joined words (with_flags line (take i xs)) (last ∷ [])))

-- the lines of one item more
pub lines_more : {X C : Type 0} (words : C → List Word) (f : X → List C) (xs : List X) (i : ℕ) (d : X) (old mid new : List ℕ) → i < length xs →
    mid ≡ old ++ lines_text (map words (flat_map f (take i xs))) → new ≡ mid ++ lines_text (map words (f (get_or xs i d))) →
    new ≡ old ++ lines_text (map words (flat_map f (take (i + 1) xs)))
lines_more words f xs i d old mid new l h k =
    lines_grown (map words (flat_map f (take i xs))) (map words (f (get_or xs i d))) old mid new h k
    ∙ ap (λ ls. old ++ lines_text ls)
    (sym (ap (map words) (flat_more f xs i d l) ∙ map_joined words (flat_map f (take i xs)) (f (get_or xs i d))))

-- ---- the whole list
pub flat_mapped : {X Y C : Type 0} (g : X → Y) (f : Y → List C) (xs : List X) → flat_map f (map g xs) ≡ flat_map (λ x. f (g x)) xs
flat_mapped g f [] = refl
flat_mapped g f (x ∷ xs) = ap (λ l. f (g x) ++ l) (flat_mapped g f xs)

-- all items are passed
pub all_passed : {X : Type 0} (lines : List X → List (List Word)) (xs : List X) (i : ℕ) (old new : List ℕ) → length xs ≤ i →
    new ≡ old ++ lines_text (lines (take i xs)) → new ≡ old ++ lines_text (lines xs)
all_passed lines xs i old new l h = h ∙ ap (λ passed. old ++ lines_text (lines passed)) (take_all i xs l)

-- the same where each item has lines of its own
pub flat_passed : {X C : Type 0} (words : C → List Word) (f : X → List C) (xs : List X) (i : ℕ) (old new : List ℕ) → length xs ≤ i →
    new ≡ old ++ lines_text (map words (flat_map f (take i xs))) → new ≡ old ++ lines_text (map words (flat_map f xs))
flat_passed words f xs i old new l h = all_passed (λ passed. map words (flat_map f passed)) xs i old new l h

-- the same for what is seen of the items
pub lines_end : {X Y C : Type 0} (words : C → List Word) (g : X → Y) (f : Y → List C) (xs : List X) (i : ℕ) (old new : List ℕ) → length xs ≤ i →
    new ≡ old ++ lines_text (map words (flat_map (λ x. f (g x)) (take i xs))) → new ≡ old ++ lines_text (map words (flat_map f (map g xs)))
lines_end words g f xs i old new l h =
    flat_passed words (λ x. f (g x)) xs i old new l h ∙ ap (λ cs. old ++ lines_text (map words cs)) (sym (flat_mapped g f xs))

-- the same for lists of lines
pub list_more : {X : Type 0} (f : X → List (List Word)) (xs : List X) (i : ℕ) (d : X) (old mid new : List ℕ) → i < length xs →
    mid ≡ old ++ lines_text (flat_map f (take i xs)) → new ≡ mid ++ lines_text (f (get_or xs i d)) → new ≡ old ++ lines_text (flat_map f (take (i + 1) xs))
list_more f xs i d old mid new l h k =
    lines_grown (flat_map f (take i xs)) (f (get_or xs i d)) old mid new h k ∙ ap (λ ls. old ++ lines_text ls) (sym (flat_more f xs i d l))

pub all_lines_end : {X Y : Type 0} (f : Y → List (List Word)) (g : X → Y) (xs : List X) (i : ℕ) (old new : List ℕ) → length xs ≤ i →
    new ≡ old ++ lines_text (flat_map (λ x. f (g x)) (take i xs)) → new ≡ old ++ lines_text (flat_map f (map g xs))
all_lines_end f g xs i old new l h =
    all_passed (flat_map (λ x. f (g x))) xs i old new l h ∙ ap (λ ls. old ++ lines_text ls) (sym (flat_mapped g f xs))

-- a range of a set
pub range_at : (last from : ℕ) (rs : List Range) (i : ℕ) (d : Range) → Ascends last from rs → i < length rs →
    ((get_or rs i d).lo ≤ (get_or rs i d).hi) × ((get_or rs i d).hi ≤ last)
range_at last from [] i d a l = absurd (omega arith)
range_at last from (r ∷ rs) zero d a l = (a.1, a.2)
range_at last from (r ∷ rs) (suc i) d a l = range_at last (r.hi + 2) rs i d a.3 (omega arith)
