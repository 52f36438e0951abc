-- The lines of a text, and the words of a line.
use Rattle.std.specs.Prelude.{ℕ, ◌+◌, ◌≡◌, ◌≢◌, ◌⊎◌, ◌==◌, Bool, true, false, ◌||◌, ◌&&◌, List, [], ◌∷◌, ◌++◌, map}
use Rattle.std.specs.List.{AllByRecursion}
use Rattle.dump_token.specs.declared.token.Token.{Token}
use Rattle.dump_token.specs.Words.{is_blank, AreWords}

abbrev pub Text : Type 0
Text = List ℕ

-- a line holds no line feed
abbrev pub IsLine : Text → Type 0
IsLine line = AllByRecursion (λ b. b ≢ 10) line

-- the text is these lines: a line feed follows each, and may be missing after the last one where that isn't empty
abbrev pub AreLines : List Text → Text → Type 0
AreLines [] text = text ≡ []
AreLines (line ∷ lines) text =
    IsLine line ×
    (((rest : Text) × (text ≡ line ++ 10 ∷ rest) × AreLines lines rest) ⊎ ((text ≡ line) × (line ≢ []) × (lines ≡ [])))

-- a line with its number, from 1
pub record Numbered : Type 0 where
  pub number : ℕ
  pub bytes : Text

abbrev pub numbered_from : ℕ → List Text → List Numbered
numbered_from n [] = []
numbered_from n (line ∷ lines) = record { number = n; bytes = line } ∷ numbered_from (n + 1) lines

-- blanks alone, or `#` after the blanks: such a line is passed over wherever it stands
abbrev pub is_passed_over : Text → Bool
is_passed_over [] = true
is_passed_over (b ∷ bs) = (is_blank b && is_passed_over bs) || (b == 35)

-- a word: its text without the quotes, and whether it stood in quotes
pub record Word : Type 0 where
  pub text : Text
  pub quoted : Bool

-- a keyword stands without quotes
abbrev pub bare : Text → Word
bare text = record { text = text; quoted = false }

abbrev pub word_of : Token → Word
word_of t = record { text = t.text; quoted = t.quoted }

abbrev pub words_of : List Token → List Word
words_of = map word_of

abbrev pub texts : List Word → List Text
texts words = map (λ (w : Word). w.text) words

-- the line has these words
abbrev pub HasWords : Text → List Word → Type 0
HasWords line words = (tokens : List Token) × AreWords 0 tokens line × (map word_of tokens ≡ words)
