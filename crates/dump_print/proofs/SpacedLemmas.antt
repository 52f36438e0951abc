-- Words, each with a space before it.
use Rattle.std.proofs.Common.{◌≡◌, ◌∙◌, ◌++◌, ◌+◌, ◌<◌, ℕ, List, [], ◌∷◌, true, false, ◌||◌, if◌then◌else◌, codes, length, take, get_or, refl, ap, sym, append_assoc}
use Rattle.std.specs.List.{flat_map}
use Rattle.std.proofs.lemmas.List.{append-nil}
use Rattle.dump_grammar.specs.Lines.{Word, bare}
use Rattle.dump_print.specs.Parts.{has_words, module_words}
use Rattle.dump_print.specs.Spelling.{spaced, spelled}
use Rattle.primitives.proofs.Growing.{grown}
use Rattle.dump_print.proofs.Steps.{flat_more}

pub spaced_joined : (a b : List Word) → spaced (a ++ b) ≡ spaced a ++ spaced b
spaced_joined [] b = refl
spaced_joined (w ∷ a) b = ap (λ l. 32 ∷ (spelled w ++ l)) (spaced_joined a b) ∙ ap (λ l. 32 ∷ l) (sym (append_assoc (spelled w) (spaced a) (spaced b)))

-- one word
pub spaced_one : (w : Word) → spaced (w ∷ []) ≡ 32 ∷ spelled w
spaced_one w = ap (λ l. 32 ∷ l) (append-nil (spelled w))

-- words after words
pub spaced_grown : (a b : List Word) (old mid new : List ℕ) → mid ≡ old ++ spaced a → new ≡ mid ++ spaced b → new ≡ old ++ spaced (a ++ b)
spaced_grown a b old mid new h k = grown old (spaced a) mid (spaced b) new _ h k (spaced_joined a b)

-- a space, and then a word
pub spaced_word : (w : Word) (old mid new : List ℕ) → mid ≡ old ++ 32 ∷ [] → new ≡ mid ++ spelled w → new ≡ old ++ spaced (w ∷ [])
spaced_word w old mid new h k = grown old (32 ∷ []) mid (spelled w) new _ h k (spaced_one w)

-- the words of one item more
pub spaced_more : {X : Type 0} (f : X → List Word) (xs : List X) (i : ℕ) (x : X) (old mid new : List ℕ) → i < length xs → x ≡ get_or xs i x →
    mid ≡ old ++ spaced (flat_map f (take i xs)) → new ≡ mid ++ spaced (f x) → new ≡ old ++ spaced (flat_map f (take (i + 1) xs))
spaced_more f xs i x old mid new l is h k =
    spaced_grown (flat_map f (take i xs)) (f x) old mid new h k
    ∙ ap (λ ws. old ++ spaced ws) (ap (λ y. flat_map f (take i xs) ++ f y) is ∙ sym (flat_more f xs i x l))

-- ---- the options of a module
pub has_joined : (a b : List Word) → has_words (a ++ b) ≡ (has_words a || has_words b)
has_joined [] b = refl
has_joined (w ∷ a) b = refl

pub has_first : (a b : List Word) → has_words a ≡ true → has_words (a ++ b) ≡ true
has_first a b e = has_joined a b ∙ ap (λ x. x || has_words b) e

pub has_later : (a b : List Word) → has_words a ≡ false → has_words (a ++ b) ≡ has_words b
has_later a b e = has_joined a b ∙ ap (λ x. x || has_words b) e

pub module_some : (name : List ℕ) (words : List Word) → has_words words ≡ true →
    spaced (module_words name words) ≡ spaced ((bare (codes "-m") ∷ bare name ∷ []) ++ words)
module_some name words e = ap (λ b. spaced (if b then bare (codes "-m") ∷ bare name ∷ words else [])) e
