-- How words and lines are written.
use Rattle.std.specs.Prelude.{◌==◌, ◌||◌, ◌++◌, ◌∷◌, [], List, if◌then◌else◌}
use Rattle.std.specs.List.{flat_map}
use Rattle.dump_grammar.specs.Lines.{Text, Word}

-- a backslash before each quote and each backslash
abbrev pub escaped : Text → Text
escaped [] = []
escaped (b ∷ bs) = if (b == 34) || (b == 92) then 92 ∷ b ∷ escaped bs else b ∷ escaped bs

-- a word as it stands in a line: bare, or in quotes
abbrev pub spelled : Word → Text
spelled word = if word.quoted then 34 ∷ (escaped word.text ++ 34 ∷ []) else word.text

-- the words, each with a space before it
abbrev pub spaced : List Word → Text
spaced [] = []
spaced (word ∷ words) = 32 ∷ (spelled word ++ spaced words)

-- the words with single spaces between them, and the line feed
abbrev pub line_text : List Word → Text
line_text [] = 10 ∷ []
line_text (word ∷ words) = spelled word ++ (spaced words ++ 10 ∷ [])

-- the lines, each given by its words, one after another
abbrev pub lines_text : List (List Word) → Text
lines_text lines = flat_map line_text lines
