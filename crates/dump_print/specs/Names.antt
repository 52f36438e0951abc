-- How patterns of interface names are written, and which sets of names one line can say.
use Rattle.std.specs.Prelude.{ℕ, ◌==◌, ◌&&◌, ◌||◌, ◌++◌, ◌∷◌, [], List, Bool, true, false, not, codes}
use Rattle.std.specs.List.{list_all}
use Rattle.name_set.specs.declared.pattern.Pattern.{Pattern}
use Rattle.name_set.specs.declared.set.NameSet.{NameSet}
use Rattle.primitives.specs.Bytes.{is_plain_byte}
use Rattle.dump_grammar.specs.Lines.{Text, Word}
use Rattle.dump_print.specs.Spelling.{spelled}

-- the name alone, or with a `+` at its end what each name begins with
abbrev pub pattern_name : Pattern → Text
pattern_name (Pattern.Exact text) = text
pattern_name (Pattern.Prefix text) = text ++ codes "+"

-- there is a first byte, and it is no `-`
abbrev pub begins_plainly : Text → Bool
begins_plainly [] = false
begins_plainly (b ∷ bs) = not (b == 45)

-- whether a name is written without quotes
abbrev pub is_bare : Text → Bool
is_bare text = begins_plainly text && list_all is_plain_byte text

-- the word of a pattern
abbrev pub name_word : Pattern → Word
name_word pattern = record { text = pattern_name pattern; quoted = not (is_bare (pattern_name pattern)) }

-- the text of a pattern
abbrev pub pattern_spelled : Pattern → Text
pattern_spelled pattern = spelled (name_word pattern)

-- whether the pattern matches every name
abbrev pub is_every_name : Pattern → Bool
is_every_name (Pattern.Exact text) = false
is_every_name (Pattern.Prefix []) = true
is_every_name (Pattern.Prefix (b ∷ bs)) = false

abbrev pub has_at_most_one : List Pattern → Bool
has_at_most_one [] = true
has_at_most_one (p ∷ []) = true
has_at_most_one (p ∷ q ∷ ps) = false

abbrev pub has_none : List Pattern → Bool
has_none [] = true
has_none (p ∷ ps) = false

-- whether one line can say the names: every name but for at most one pattern, or those of a pattern
abbrev pub is_plain_names : NameSet → Bool
is_plain_names names = has_none names.excluded || (is_every_name names.base && has_at_most_one names.excluded)
