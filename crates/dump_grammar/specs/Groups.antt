-- The groups of a rule line, as a division of its words.
use Rattle.std.specs.Prelude.{ℕ, ◌≡◌, ◌⊎◌, ◌≤◌, Bool, true, false, not, ◌&&◌, ◌||◌, nat_eq, List, [], ◌∷◌, ◌++◌, length, map, option_map, Option, Some, None, codes}
use Rattle.std.specs.List.{AllByRecursion, find, starts_with, list_any}
use Rattle.std.specs.Str.{bytes_eq}
use Rattle.opt_table.specs.Options.{Spelling, known_options}
use Rattle.dump_grammar.specs.Lines.{Text, Word, bare, texts}
use Rattle.dump_grammar.specs.ChainLines.{is_among}

-- an option that needs no module, a module that is named, or an option of the module that was named last, if one was
pub data Group : Type 0 where
  Base : (negated : Bool) (option : Text) (arguments : List Text) → Group
  Module : (name : Text) → Group
  ModuleOption : (current : Option Text) (negated : Bool) (option : Text) (arguments : List Text) → Group

-- the options that need no module
abbrev pub base_options : List Text
base_options = codes "-s" ∷ codes "-d" ∷ codes "-i" ∷ codes "-o" ∷ codes "-p" ∷ codes "-f" ∷ []

-- a `!` before the option, where it is negated
abbrev pub mark : Bool → List Text
mark true = codes "!" ∷ []
mark false = []

-- the same as a word
abbrev pub mark_words : Bool → List Word
mark_words negated = map bare (mark negated)

-- whether the text begins with `--`
abbrev pub begins_with_dashes : Text → Bool
begins_with_dashes text = starts_with nat_eq text (codes "--")

-- whether a word ends the arguments of an option without a row: it is unquoted and begins with `--`, or is one of these
abbrev pub stops : Word → Bool
stops word = not word.quoted && (begins_with_dashes word.text
    || is_among (codes "!" ∷ codes "-m" ∷ codes "-j" ∷ codes "-g" ∷ base_options) word.text)

-- nothing stands there, or such a word comes first
abbrev pub BeginsWithStop : List Word → Type 0
BeginsWithStop [] = Unit {0}
BeginsWithStop (word ∷ words) = stops word ≡ true

-- the row of this module and this option, where there is one; the module of an option that needs none is empty
unfoldable pub row_of : Text → Text → Option Spelling
row_of name option = find (λ (row : Spelling). bytes_eq row.name name && bytes_eq row.option option) known_options

-- how many arguments that row says
unfoldable pub arity_of : Text → Text → Option ℕ
arity_of name option = option_map (λ (row : Spelling). row.arity) (row_of name option)

-- whether the name isn't empty and some option of the module has a row
abbrev pub is_known_module : Text → Bool
is_known_module [] = false
is_known_module (b ∷ bs) = list_any (λ (row : Spelling). bytes_eq row.name (b ∷ bs)) known_options

-- how many arguments an option of the module that was named last takes, where one was named and the option has a row
abbrev pub arity_in : Option Text → Text → Option ℕ
arity_in None option = None
arity_in (Some name) option = arity_of name option

-- the words that an option takes: with a row as many as it says, whatever they are; without one those before the
-- first word that stops it
abbrev pub Takes : Option ℕ → List Word → List Word → Type 0
Takes (Some count) taken rest = length taken ≡ count
Takes None taken rest = AllByRecursion (λ word. stops word ≡ false) taken × BeginsWithStop rest

-- `--` and one byte more at least
abbrev pub IsOptionName : Text → Type 0
IsOptionName text = (begins_with_dashes text ≡ true) × (3 ≤ length text)

-- the group stands at the front of the words and `rest` follows it, where `current` is the module that was named last,
-- if one was
abbrev pub IsGroup : Option Text → List Word → Group → List Word → Type 0
IsGroup current words (Base negated option arguments) rest =
    (taken : List Word) × ((words ≡ mark_words negated ++ bare option ∷ (taken ++ rest))
    × (is_among base_options option ≡ true) × (arity_of [] option ≡ Some (length taken)) × (texts taken ≡ arguments))
IsGroup current words (Module name) rest =
    (value : Word) × ((words ≡ bare (codes "-m") ∷ value ∷ rest) × (value.text ≡ name))
IsGroup current words (ModuleOption module' negated option arguments) rest =
    (taken : List Word) × ((words ≡ mark_words negated ++ bare option ∷ (taken ++ rest)) × (module' ≡ current)
    × IsOptionName option × Takes (arity_in current option) taken rest × (texts taken ≡ arguments))

-- the module that is named last once the group has passed
abbrev pub current_after : Option Text → Group → Option Text
current_after current (Module name) = Some name
current_after current group = current

-- the words are these groups one after another, and then `target`
abbrev pub AreGroups : Option Text → List Word → List Group → List Word → Type 0
AreGroups current words [] target = words ≡ target
AreGroups current words (group ∷ groups) target =
    (rest : List Word) × (IsGroup current words group rest × AreGroups (current_after current group) rest groups target)

-- nothing stands there, or an unquoted `-j` or `-g` comes first
abbrev pub EndsGroups : List Word → Type 0
EndsGroups [] = Unit {0}
EndsGroups (word ∷ words) = (word ≡ bare (codes "-j")) ⊎ (word ≡ bare (codes "-g"))

-- the options of the groups that need no module, in order
abbrev pub base_of : List Group → List Text
base_of [] = []
base_of (Base negated option arguments ∷ groups) = option ∷ base_of groups
base_of (group ∷ groups) = base_of groups

-- no text stands twice
abbrev pub all_differ : List Text → Bool
all_differ [] = true
all_differ (x ∷ xs) = not (is_among xs x) && all_differ xs
