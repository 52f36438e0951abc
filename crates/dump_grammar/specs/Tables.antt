-- A text's lines as tables, and the first line that is wrong.
use Rattle.std.specs.Prelude.{ℕ, ◌+◌, ◌<◌, ◌≤◌, ◌≡◌, ◌≢◌, ◌⊎◌, true, not, List, [], ◌∷◌, ◌++◌, length, filter, map, take, slice_get, Some, codes}
use Rattle.std.specs.List.{AllByRecursion, AllZip, flat_map}
use Rattle.dump_token.specs.Words.{AreBlanks}
use Rattle.dump_grammar.specs.Lines.{Text, Numbered, numbered_from, is_passed_over, Word, bare, HasWords}
use Rattle.dump_grammar.specs.declared.chains.Declared.{Declared}
use Rattle.dump_grammar.specs.ChainLines.{IsChainLine}
use Rattle.dump_grammar.specs.Groups.{all_differ}
use Rattle.dump_grammar.specs.declared.rule.RuleLine.{RuleLine}
use Rattle.dump_grammar.specs.RuleLines.{IsRuleLine}

-- the line is `COMMIT` once the blanks at both ends are off
abbrev pub IsCommit : Text → Type 0
IsCommit line = (before : Text) × (after : Text)
    × ((line ≡ before ++ codes "COMMIT" ++ after) × AreBlanks before × AreBlanks after)

-- a table: its opener, its body and the line that closes it
pub record DumpTable : Type 0 where
  pub name : Text
  pub opener : Numbered
  pub body : List Numbered
  pub close : Numbered

abbrev pub lines_of : DumpTable → List Numbered
lines_of t = t.opener ∷ (t.body ++ t.close ∷ [])

abbrev pub IsFilter : DumpTable → Type 0
IsFilter t = t.name ≡ codes "filter"

abbrev pub names_of : List Declared → List Text
names_of chains = map (λ (c : Declared). c.name) chains

-- a rule with the number of its line
pub record Placed (W : ℕ) : Type 0 where
  pub number : ℕ
  pub rule : RuleLine W

-- each line declares the chain beside it
abbrev pub AreChainLines : List Numbered → List Declared → Type 0
AreChainLines =
    AllZip (λ (line : Numbered) chain. (words : List Word) × HasWords line.bytes words × IsChainLine words chain)

module _ (W : ℕ) (Reads : Text → ℕ → Type 0) where
  -- each line is the rule beside it
  abbrev pub AreRuleLines : List Text → List Numbered → List (Placed W) → Type 0
  AreRuleLines names = AllZip (λ (line : Numbered) (placed : Placed W). (line.number ≡ placed.number)
      × ((words : List Word) × HasWords line.bytes words × IsRuleLine Reads names words placed.rule))

  -- the body of filter: lines that declare chains, none twice, and then rule lines
  pub record IsFilterBody (body : List Numbered) (chains : List Declared) (rules : List (Placed W)) : Type 0 where
    pub chain_lines : List Numbered
    pub rule_lines : List Numbered
    pub whole : body ≡ chain_lines ++ rule_lines
    pub declares : AreChainLines chain_lines chains
    pub once : all_differ (names_of chains) ≡ true
    pub spells : AreRuleLines (names_of chains) rule_lines rules

  -- filter holds lines of chains and of rules, and its end is a line with the word COMMIT alone
  abbrev pub IsFilterTable : DumpTable → Type 0
  IsFilterTable t =
      IsFilter t × ((chains : List Declared) × (rules : List (Placed W)) × IsFilterBody t.body chains rules)
      × HasWords t.close.bytes (bare (codes "COMMIT") ∷ [])

  -- in another table each line up to COMMIT is in the body, whatever it is
  abbrev pub IsOtherTable : DumpTable → Type 0
  IsOtherTable t = (IsFilter t → ⊥) × AllByRecursion (λ (line : Numbered). IsCommit line.bytes → ⊥) t.body
      × IsCommit t.close.bytes

  -- `*NAME`, a body, and COMMIT
  pub record IsTable (t : DumpTable) : Type 0 where
    pub named : t.name ≢ []
    pub opens : HasWords t.opener.bytes (bare (42 ∷ t.name) ∷ [])
    pub inside : IsFilterTable t ⊎ IsOtherTable t

  -- the lines that aren't passed over are these tables one after another; two places with a table filter are one
  pub record AreTables (lines : List Numbered) (tables : List DumpTable) : Type 0 where
    pub whole : filter (λ (line : Numbered). not (is_passed_over line.bytes)) lines ≡ flat_map lines_of tables
    pub each : AllByRecursion IsTable tables
    pub one_filter : (i j : ℕ) (s t : DumpTable) → slice_get tables i ≡ Some s → slice_get tables j ≡ Some t
        → IsFilter s → IsFilter t → i ≡ j

  abbrev pub WellFormed : List Text → Type 0
  WellFormed lines = (tables : List DumpTable) × AreTables (numbered_from 1 lines) tables

  -- the lines are well formed, or are so with one line COMMIT put after them
  abbrev pub Fit : List Text → Type 0
  Fit lines = WellFormed lines ⊎ WellFormed (lines ++ codes "COMMIT" ∷ [])

  -- the bad line is the first with which the lines up to it don't fit; where all fit and aren't well formed, the number
  -- of lines plus one
  abbrev pub IsBadLine : List Text → ℕ → Type 0
  IsBadLine lines n =
      ((n ≤ length lines) × (Fit (take n lines) → ⊥) × ((k : ℕ) → k < n → Fit (take k lines)))
      ⊎ ((n ≡ length lines + 1) × Fit lines × (WellFormed lines → ⊥))
