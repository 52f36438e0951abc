-- Rule lines: `[counter] -A CHAIN`, groups, and perhaps a target.
use Rattle.std.specs.Prelude.{ℕ, ◌≡◌, true, List, ◌∷◌, ◌++◌, None, codes}
use Rattle.dump_grammar.specs.declared.rule.RuleLine.{RuleLine}
use Rattle.dump_grammar.specs.Lines.{Text, Word, bare}
use Rattle.dump_grammar.specs.ChainLines.{IsMaybeCounter}
use Rattle.dump_grammar.specs.Groups.{Group, AreGroups, all_differ, base_of}
use Rattle.dump_grammar.specs.Literals.{AreLiterals}
use Rattle.dump_grammar.specs.Targets.{IsTarget}

-- an optional counter, `-A`, the name of the chain, and then `rest`
abbrev pub IsRuleHead : List Word → Text → List Word → Type 0
IsRuleHead words chain rest = (counter : List Word) × (name : Word) × (IsMaybeCounter counter × (name.text ≡ chain)
    × (words ≡ counter ++ (bare (codes "-A") ∷ name ∷ rest)))

module _ {W : ℕ} (Reads : Text → ℕ → Type 0) (names : List Text) where
  -- the words of a line are this rule; `names` are the declared chains, in order
  pub record IsRuleLine (words : List Word) (rule : RuleLine W) : Type 0 where
    pub rest : List Word
    pub head : IsRuleHead words rule.chain rest
    pub target : List Word
    pub groups : List Group
    pub grouped : AreGroups None rest groups target
    pub once : all_differ (base_of groups) ≡ true
    pub literals : AreLiterals Reads groups groups rule.literals
    pub targeted : IsTarget names target rule.target
