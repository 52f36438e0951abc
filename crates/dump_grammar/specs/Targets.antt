-- What a rule does: its target, and what may follow it.
use Rattle.std.specs.Prelude.{ℕ, ◌≡◌, ◌⊎◌, true, false, List, [], ◌∷◌, Option, Some, None, position, codes, if◌then◌else◌}
use Rattle.std.specs.Str.{bytes_eq}
use Rattle.fw_rule.specs.declared.rule.Action.{Action}
use Rattle.dump_grammar.specs.declared.rule.Target.{Target}
use Rattle.dump_grammar.specs.Lines.{Text, Word, bare}
use Rattle.dump_grammar.specs.ChainLines.{is_among, built_in, passing, target_words}

-- the number of a chain that is no built-in one, in the order in which chains are declared
abbrev pub user_chain : List Text → Text → Option ℕ
user_chain names name = if is_among built_in name then None else position (bytes_eq name) names

-- nothing, or an unquoted `--reject-with` and one word
abbrev pub IsRejectOption : List Word → Type 0
IsRejectOption following = (following ≡ []) ⊎ ((kind : Word) × (following ≡ bare (codes "--reject-with") ∷ kind ∷ []))

-- `-j NAME` and the words that follow it are this action; `names` are the declared chains, in order
abbrev pub IsJump : List Text → Text → List Word → Action → Type 0
IsJump names name following Action.Accept = (name ≡ codes "ACCEPT") × (following ≡ [])
IsJump names name following Action.Drop =
    ((name ≡ codes "DROP") × (following ≡ [])) ⊎ ((name ≡ codes "REJECT") × IsRejectOption following)
IsJump names name following Action.Back = (name ≡ codes "RETURN") × (following ≡ [])
IsJump names name following Action.Pass = is_among passing name ≡ true
IsJump names name following (Action.Call k) =
    (is_among target_words name ≡ false) × (user_chain names name ≡ Some k) × (following ≡ [])
IsJump names name following (Action.Goto k) = ⊥
IsJump names name following (Action.Other shown) =
    (is_among target_words name ≡ false) × (user_chain names name ≡ None) × (shown ≡ name)

-- the words are a target: none at all, `-j NAME` and what may follow, or `-g NAME` and no more. A goto leads to a
-- declared chain that isn't built in; without such a chain of its name it is undefined
abbrev pub IsTarget : List Text → List Word → Target → Type 0
IsTarget names words (Target.Does action) =
    ((words ≡ []) × (action ≡ Action.Pass))
    ⊎ ((name : Word) × (following : List Word)
    × ((words ≡ bare (codes "-j") ∷ name ∷ following) × IsJump names name.text following action))
    ⊎ ((name : Word) × (k : ℕ)
    × ((words ≡ bare (codes "-g") ∷ name ∷ []) × (user_chain names name.text ≡ Some k) × (action ≡ Action.Goto k)))
IsTarget names words Target.Undefined =
    (name : Word) × ((words ≡ bare (codes "-g") ∷ name ∷ []) × (user_chain names name.text ≡ None))
