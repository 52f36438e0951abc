-- The names between which the least name of a set is searched: excluded ones, and these with one byte more.
use Rattle.std.specs.Prelude.{ℕ, ◌≡◌, ◌+◌, ◌==◌, List, [], ◌∷◌, Bool, true, false, ◌&&◌, ◌||◌, Option, Some, None, if◌then◌else◌}
use Rattle.std.specs.Str.{bytes_eq}
use Rattle.name_set.specs.declared.least.Taken.{Taken}
use Rattle.name_set.specs.declared.pattern.Pattern.{Pattern}
use Rattle.name_set.specs.Least.{is_before}
use Rattle.name_set.specs.Patterns.{begins}

-- whether the byte is one of those taken
abbrev pub takes : Taken → ℕ → Bool
takes Taken.None b = false
takes (Taken.One byte) b = byte == b
takes Taken.Every b = true

-- whether one of the patterns is this name alone
abbrev pub has_exact : List Pattern → List ℕ → Bool
has_exact [] name = false
has_exact (Pattern.Exact text ∷ ps) name = bytes_eq text name || has_exact ps name
has_exact (Pattern.Prefix text ∷ ps) name = has_exact ps name

-- whether the name stands after the last one, if there is one
abbrev pub is_after : Option (List ℕ) → List ℕ → Bool
is_after None name = true
is_after (Some last) name = is_before last name

-- whether the name stands before the next one, if there is one
abbrev pub is_ahead : Option (List ℕ) → List ℕ → Bool
is_ahead None name = true
is_ahead (Some next) name = is_before name next

-- whether the name begins with the text and stands after the last one
abbrev pub is_left : List ℕ → Option (List ℕ) → List ℕ → Bool
is_left text last name = begins text name && is_after last name

-- of the pattern's name and the next one so far, the one that is next
abbrev pub nearer_of : List ℕ → Option (List ℕ) → Option (List ℕ) → Pattern → Option (List ℕ)
nearer_of text last next (Pattern.Exact name) = if is_left text last name && is_ahead next name then Some name else next
nearer_of text last next (Pattern.Prefix name) = next

-- the first of the patterns' names that are left, or none is left
abbrev pub IsNext : List ℕ → List Pattern → Option (List ℕ) → Option (List ℕ) → Type 0
IsNext text ps last None = (name : List ℕ) → has_exact ps name ≡ true → is_left text last name ≡ false
IsNext text ps last (Some next) = (has_exact ps next ≡ true) × (is_left text last next ≡ true) ×
    ((name : List ℕ) → has_exact ps name ≡ true → is_left text last name ≡ true → is_before name next ≡ false)

-- how many names are left
abbrev pub left_count : List ℕ → Option (List ℕ) → List Pattern → ℕ
left_count text last [] = 0
left_count text last (Pattern.Exact name ∷ ps) = (if is_left text last name then 1 else 0) + left_count text last ps
left_count text last (Pattern.Prefix name ∷ ps) = left_count text last ps
