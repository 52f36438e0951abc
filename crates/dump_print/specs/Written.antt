-- Words that stand in a line as they are meant.
use Rattle.std.specs.Prelude.{◌≡◌, ◌⊎◌, ◌++◌, ◌∷◌, true, false, List}
use Rattle.std.specs.List.{AllByRecursion}
use Rattle.dump_token.specs.Words.{BeginsPlain, HoldsNoBlank}
use Rattle.dump_grammar.specs.Lines.{HasWords, Word}
use Rattle.dump_print.specs.Spelling.{spaced, spelled}

-- in quotes any text, and bare one that begins with no quote and has no blank
abbrev pub IsWritten : Word → Type 0
IsWritten word = (word.quoted ≡ true) ⊎ ((word.quoted ≡ false) × BeginsPlain word.text × HoldsNoBlank word.text)

-- the words of a line are those that were put into it
abbrev pub KeepsWords : Type 0
KeepsWords = (word : Word) (words : List Word) → IsWritten word → AllByRecursion IsWritten words → HasWords (spelled word ++ spaced words) (word ∷ words)
