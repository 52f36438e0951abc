-- The words of a line are those that were put into it.
use Rattle.std.proofs.Common.{◌≡◌, ◌++◌, ◌+◌, ◌==◌, ◌||◌, ◌⊎◌, inl, inr, ℕ, List, [], ◌∷◌, Bool, true, false, length, map, if◌then◌else◌, refl, ap, arith}
use Rattle.std.proofs.lemmas.Bool.Decides.{nat_tests}
use Rattle.std.specs.List.{AllByRecursion}
use Rattle.dump_token.specs.declared.token.Token.{Token}
use Rattle.dump_token.specs.Words.{AreWords, Begins, BeginsBlank, BeginsPlain, HoldsNoBlank, Means, Spells}
use Rattle.dump_grammar.specs.Lines.{Text, Word, word_of}
use Rattle.dump_print.specs.Spelling.{escaped, spaced, spelled}
use Rattle.dump_print.specs.Written.{IsWritten, KeepsWords}

same : (x y : ℕ) → (x == y) ≡ true → x ≡ y
same x y e = grind (arith, nat_tests)

differ : (x y : ℕ) → (x == y) ≡ false → x ≡ y → ⊥
differ x y e s = absurd (grind (arith, nat_tests))

-- what is escaped means the text
meant : (quote slash : Bool) (b : ℕ) (text inner : Text) → (b == 34) ≡ quote → (b == 92) ≡ slash → Means inner text →
    Means (if quote || slash then 92 ∷ b ∷ inner else b ∷ inner) (b ∷ text)
meant true slash b text inner e f m = inl (refl, (text, refl, m))
meant false true b text inner e f m = inl (refl, (text, refl, m))
meant false false b text inner e f m = inr (differ b 92 f, differ b 34 e, (text, refl, m))

pub escaped_means : (text : Text) → Means (escaped text) text
escaped_means [] = refl
escaped_means (b ∷ text) = meant (b == 34) (b == 92) b text (escaped text) refl refl (escaped_means text)

rest_blank : (words : List Word) → BeginsBlank (spaced words)
rest_blank [] = tt
rest_blank (w ∷ words) = refl

token_at : ℕ → Word → Token
token_at start word = record { text = word.text; quoted = word.quoted; start = start; end = start + length (spelled word) }

spells_at : (start : ℕ) (quoted : Bool) (text : Text) (words : List Word) →
    (quoted ≡ true) ⊎ ((quoted ≡ false) × BeginsPlain text × HoldsNoBlank text) →
    Spells (if quoted then 34 ∷ (escaped text ++ 34 ∷ []) else text) (spaced words)
    (record { text = text; quoted = quoted; start = start; end = start + length (if quoted then 34 ∷ (escaped text ++ 34 ∷ []) else text) })
spells_at start true text words w = inr (record { quoted = refl; inner = escaped text; whole = refl; text = escaped_means text })
spells_at start false text words (inl e) = let wrong : false ≡ true = e in cc
spells_at start false text words (inr p) = inl (record { quoted = refl; text = refl; first = p.1; run = p.2; ends = rest_blank words })

begins_at : (start : ℕ) (word : Word) (words : List Word) → IsWritten word → Begins start (token_at start word) (spelled word ++ spaced words) (spaced words)
unfolding token_at
begins_at start word words w = record {
  spelled = spelled word;
  whole = refl;
  spells = spells_at start word.quoted word.text words w;
  starts = refl;
  ends = refl;
}

tokens_of : ℕ → List Word → List Token
tokens_of at [] = []
tokens_of at (word ∷ words) = token_at (at + 1) word ∷ tokens_of (at + 1 + length (spelled word)) words

are_spaced : (at : ℕ) (words : List Word) → AllByRecursion IsWritten words → AreWords at (tokens_of at words) (spaced words)
unfolding tokens_of token_at
are_spaced at [] w = tt
are_spaced at (word ∷ words) w = (
  spaced words,
  record { gap = 32 ∷ []; after = spelled word ++ spaced words; whole = refl; blanks = (refl, tt); begins = begins_at (at + 1) word words w.0 },
  are_spaced (at + 1 + length (spelled word)) words w.1,
)

words_are : (at : ℕ) (words : List Word) → map word_of (tokens_of at words) ≡ words
unfolding tokens_of token_at
words_are at [] = refl
words_are at (word ∷ words) = ap (λ l. word ∷ l) (words_are (at + 1 + length (spelled word)) words)

pub keeps_words : KeepsWords
unfolding token_at
keeps_words word words w ws = (
  token_at 0 word ∷ tokens_of (0 + length (spelled word)) words,
  (spaced words, record { gap = []; after = spelled word ++ spaced words; whole = refl; blanks = tt; begins = first_begins }, are_spaced (0 + length (spelled word)) words ws),
  ap (λ l. word ∷ l) (words_are (0 + length (spelled word)) words),
)
  where
    first_begins : Begins (0 + 0) (token_at 0 word) (spelled word ++ spaced words) (spaced words)
    first_begins = begins_at 0 word words w
