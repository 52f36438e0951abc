-- The words of a line, as a division of all its bytes.
use Rattle.std.specs.Prelude.{ℕ, ◌+◌, ◌≡◌, ◌≢◌, ◌⊎◌, ◌==◌, Bool, true, false, ◌||◌, List, [], ◌∷◌, ◌++◌, length}
use Rattle.std.specs.List.{AllByRecursion}
use Rattle.dump_token.specs.declared.token.Token.{Token}

-- a space, a tab or a carriage return
abbrev pub is_blank : ℕ → Bool
is_blank b = (b == 32) || (b == 9) || (b == 13)

abbrev pub AreBlanks : List ℕ → Type 0
AreBlanks = AllByRecursion (λ b. is_blank b ≡ true)

abbrev pub HoldsNoBlank : List ℕ → Type 0
HoldsNoBlank = AllByRecursion (λ b. is_blank b ≡ false)

-- nothing stands there, or a blank comes first
abbrev pub BeginsBlank : List ℕ → Type 0
BeginsBlank [] = Unit {0}
BeginsBlank (b ∷ bs) = is_blank b ≡ true

-- nothing stands there, or what comes first is no blank
abbrev pub BeginsNoBlank : List ℕ → Type 0
BeginsNoBlank [] = Unit {0}
BeginsNoBlank (b ∷ bs) = is_blank b ≡ false

-- there is a first byte, and it is no quote and no blank
abbrev pub BeginsPlain : List ℕ → Type 0
BeginsPlain [] = ⊥
BeginsPlain (b ∷ bs) = (b ≢ 34) × (is_blank b ≡ false)

-- The bytes between two quotes stand for this text: a backslash is left out, and the byte after it
-- stands for itself; no other quote stands there.
abbrev mutual
  pub Means : List ℕ → List ℕ → Type 0
  Means [] text = text ≡ []
  Means (b ∷ bs) text =
      ((b ≡ 92) × MeansItself bs text)
      ⊎ ((b ≢ 92) × (b ≢ 34) × ((more : List ℕ) × (text ≡ b ∷ more) × Means bs more))

  pub MeansItself : List ℕ → List ℕ → Type 0
  MeansItself [] text = ⊥
  MeansItself (b ∷ bs) text = (more : List ℕ) × (text ≡ b ∷ more) × Means bs more

-- the longest run of bytes that aren't blanks, which begins with no quote and is the word's text
pub record IsPlain (bytes rest : List ℕ) (word : Token) : Type 0 where
  pub quoted : word.quoted ≡ false
  pub text : word.text ≡ bytes
  pub first : BeginsPlain bytes
  pub run : HoldsNoBlank bytes
  pub ends : BeginsBlank rest

-- a quote, what stands for the word's text, and the quote that closes it
pub record IsQuoted (bytes : List ℕ) (word : Token) : Type 0 where
  pub quoted : word.quoted ≡ true
  pub inner : List ℕ
  pub whole : bytes ≡ 34 ∷ (inner ++ 34 ∷ [])
  pub text : Means inner word.text

-- the bytes spell the word, where `rest` follows them
abbrev pub Spells : List ℕ → List ℕ → Token → Type 0
Spells bytes rest word = IsPlain bytes rest word ⊎ IsQuoted bytes word

-- what spells the word stands at the front of the bytes, from `start` on, and `rest` follows
pub record Begins (start : ℕ) (word : Token) (bytes rest : List ℕ) : Type 0 where
  pub spelled : List ℕ
  pub whole : bytes ≡ spelled ++ rest
  pub spells : Spells spelled rest word
  pub starts : word.start ≡ start
  pub ends : word.end ≡ start + length spelled

-- the bytes, which stand from `at` on, are some blanks, the word, and the rest
pub record IsFirst (at : ℕ) (word : Token) (bytes rest : List ℕ) : Type 0 where
  pub gap : List ℕ
  pub after : List ℕ
  pub whole : bytes ≡ gap ++ after
  pub blanks : AreBlanks gap
  pub begins : Begins (at + length gap) word after rest

-- the bytes, which stand from `at` on, are these words with blanks around them
abbrev pub AreWords : ℕ → List Token → List ℕ → Type 0
AreWords at [] bytes = AreBlanks bytes
AreWords at (word ∷ words) bytes = (rest : List ℕ) × IsFirst at word bytes rest × AreWords word.end words rest

-- no quote closes the one before these bytes
abbrev pub IsUnclosed : List ℕ → Type 0
IsUnclosed bytes = (inner text rest : List ℕ) → bytes ≡ inner ++ 34 ∷ rest → Means inner text → ⊥

-- some blanks come first, and then a quote that nothing closes
pub record OpensQuote (bytes : List ℕ) : Type 0 where
  pub gap : List ℕ
  pub rest : List ℕ
  pub whole : bytes ≡ gap ++ 34 ∷ rest
  pub blanks : AreBlanks gap
  pub unclosed : IsUnclosed rest

-- the bytes, which stand from `at` on, are these words, and then a quote opens a word and is never
-- closed
abbrev pub AreLeftOpen : ℕ → List Token → List ℕ → Type 0
AreLeftOpen at [] bytes = OpensQuote bytes
AreLeftOpen at (word ∷ words) bytes = (rest : List ℕ) × IsFirst at word bytes rest × AreLeftOpen word.end words rest

-- a line has at most one list of words
abbrev pub HasOneList : List ℕ → Type 0
HasOneList line = (a b : List Token) → AreWords 0 a line → AreWords 0 b line → a ≡ b

-- a line that has a list of words leaves no quote open
abbrev pub ExcludeEachOther : List ℕ → Type 0
ExcludeEachOther line = (a b : List Token) → AreWords 0 a line → AreLeftOpen 0 b line → ⊥
