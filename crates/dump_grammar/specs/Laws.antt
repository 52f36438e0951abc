-- What a reader of the grammar can rely on.
use Rattle.std.specs.Prelude.{ℕ, ◌≡◌, List, None}
use Rattle.dump_grammar.specs.declared.chains.Declared.{Declared}
use Rattle.dump_grammar.specs.declared.rule.RuleLine.{RuleLine}
use Rattle.dump_grammar.specs.ChainLines.{IsChainLine}
use Rattle.dump_grammar.specs.Groups.{AreGroups, EndsGroups, Group}
use Rattle.dump_grammar.specs.Lines.{Text, Word}
use Rattle.dump_grammar.specs.RuleLines.{IsRuleLine}

-- the words are one list of groups at most, and then one target
abbrev pub HasOneDivision : List Word → Type 0
HasOneDivision words = (groups others : List Group) (target end : List Word) → AreGroups None words groups target
    → EndsGroups target → AreGroups None words others end → EndsGroups end → (groups ≡ others) × (target ≡ end)

-- the words are one rule at most
abbrev pub HasOneRule : (W : ℕ) → (Text → ℕ → Type 0) → List Text → List Word → Type 0
HasOneRule W Reads names words =
    (a b : RuleLine W) → IsRuleLine Reads names words a → IsRuleLine Reads names words b → a ≡ b

-- the words declare one chain at most
abbrev pub HasOneChain : List Word → Type 0
HasOneChain words = (a b : Declared) → IsChainLine words a → IsChainLine words b → a ≡ b
