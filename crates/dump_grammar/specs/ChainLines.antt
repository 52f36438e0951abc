-- Chain lines: `:NAME POLICY [packets:bytes]`.
use Rattle.std.specs.Prelude.{ℕ, ◌≡◌, ◌≢◌, ◌≤◌, Bool, false, List, [], ◌∷◌, ◌++◌, Option, Some, None, All, codes, length, is_some}
use Rattle.std.specs.List.{list_any}
use Rattle.std.specs.Str.{bytes_eq}
use Rattle.fw_rule.specs.declared.rule.Verdict.{Verdict}
use Rattle.dump_grammar.specs.declared.chains.Declared.{Declared}
use Rattle.dump_grammar.specs.Lines.{Text, Word, bare}

-- whether a text is one of these
abbrev pub is_among : List Text → Text → Bool
is_among names text = list_any (λ name. bytes_eq name text) names

-- `0` to `9`
abbrev pub IsDigit : ℕ → Type 0
IsDigit b = (48 ≤ b) × (b ≤ 57)

-- one decimal digit or more
abbrev pub IsDigits : Text → Type 0
IsDigits text = (1 ≤ length text) × All IsDigit text

-- the text is `[packets:bytes]`
pub record IsCounterText (text : Text) : Type 0 where
  pub packets : Text
  pub bytes : Text
  pub packet_digits : IsDigits packets
  pub byte_digits : IsDigits bytes
  pub spelled : text ≡ 91 ∷ (packets ++ 58 ∷ (bytes ++ 93 ∷ []))

-- the word is a counter
abbrev pub IsCounter : Word → Type 0
IsCounter word = (word.quoted ≡ false) × IsCounterText word.text

-- a counter, or no word
abbrev pub IsMaybeCounter : List Word → Type 0
IsMaybeCounter [] = Unit {0}
IsMaybeCounter (word ∷ []) = IsCounter word
IsMaybeCounter (word ∷ next ∷ words) = ⊥

-- the names of the built-in chains
abbrev pub built_in : List Text
built_in = codes "INPUT" ∷ codes "FORWARD" ∷ codes "OUTPUT" ∷ []

-- targets that never end the walk
abbrev pub passing : List Text
passing =
    codes "LOG" ∷ codes "NFLOG" ∷ codes "ULOG" ∷ codes "MARK" ∷ codes "CONNMARK" ∷ codes "TCPMSS" ∷ codes "SET" ∷ []

-- the words of targets, which no chain has as its name
abbrev pub target_words : List Text
target_words = codes "ACCEPT" ∷ codes "DROP" ∷ codes "REJECT" ∷ codes "RETURN" ∷ passing

-- the word of a policy, and `-` where there is none
abbrev pub policy_text : Option Verdict → Text
policy_text (Some Verdict.Accept) = codes "ACCEPT"
policy_text (Some Verdict.Drop) = codes "DROP"
policy_text None = codes "-"

-- the words declare the chain: `:NAME` with a name that is no target's word, a policy where the chain is a built-in
-- one and `-` where it isn't, and perhaps a counter
pub record IsChainLine (words : List Word) (chain : Declared) : Type 0 where
  pub counter : List Word
  pub counted : IsMaybeCounter counter
  pub whole : words ≡ bare (58 ∷ chain.name) ∷ bare (policy_text chain.policy) ∷ counter
  pub named : chain.name ≢ []
  pub allowed : is_among target_words chain.name ≡ false
  pub policy : is_among built_in chain.name ≡ is_some chain.policy
