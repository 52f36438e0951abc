-- Bytes of a kind in a text, and the parts between them.
use Rattle.std.specs.Prelude.{◌≢◌, ◌==◌, ℕ, List, All}
use Rattle.std.specs.List.{slice_split}

-- no byte of the text is this one
abbrev pub Lacks : ℕ → List ℕ → Type 0
Lacks byte text = All (λ b. b ≢ byte) text

-- the parts of a text between its commas: one where there is no comma
abbrev pub comma_parts : List ℕ → List (List ℕ)
comma_parts text = slice_split (λ b. b == 44) text
