-- Where a reader stands after some lines of a text. The contracts of private functions cite this; what a text means is
-- stated in the grammar alone.
use Rattle.std.specs.Prelude.{ℕ, ◌≡◌, ◌≢◌, ◌⊎◌, true, false, List, [], ◌∷◌, ◌++◌, Option, Some, None, codes}
use Rattle.dump_grammar.specs.Lines.{Text, Word, Numbered, is_passed_over, bare, HasWords}
use Rattle.dump_grammar.specs.declared.chains.Declared.{Declared}
use Rattle.dump_grammar.specs.ChainLines.{IsChainLine, is_among}
use Rattle.dump_grammar.specs.declared.rule.RuleLine.{RuleLine}
use Rattle.dump_grammar.specs.RuleLines.{IsRuleLine}
use Rattle.dump_grammar.specs.Tables.{IsCommit, Placed, names_of}

-- the chains and the rules of a table filter
abbrev pub Filter : ℕ → Type 0
Filter W = List Declared × List (Placed W)

-- where one stands: outside a table, in a table other than filter, or in filter; and what filter had, if it came
pub data Position (W : ℕ) : Type 0 where
  Outside : Option (Filter W) → Position W
  Passing : Option (Filter W) → Position W
  Inside : List Declared → List (Placed W) → Position W

module _ (W : ℕ) (Reads : Text → ℕ → Type 0) where
  -- the name of a table that opens leads into it; filter opens once
  abbrev pub Opens : Option (Filter W) → Text → Position W → Type 0
  Opens found name q =
      ((name ≡ codes "filter") × (found ≡ None) × (q ≡ Position.Inside [] []))
      ⊎ ((name ≢ codes "filter") × (q ≡ Position.Passing found))

  -- the words of a line of filter, and where they lead: to its end, a chain further, or a rule further
  abbrev pub Adds : List Declared → List (Placed W) → ℕ → List Word → Position W → Type 0
  Adds chains rules n words q =
      ((words ≡ bare (codes "COMMIT") ∷ []) × (q ≡ Position.Outside (Some (chains, rules))))
      ⊎ ((chain : Declared) × ((rules ≡ []) × IsChainLine words chain × (is_among (names_of chains) chain.name ≡ false)
      × (q ≡ Position.Inside (chains ++ chain ∷ []) [])))
      ⊎ ((rule : RuleLine W) × (IsRuleLine Reads (names_of chains) words rule
      × (q ≡ Position.Inside chains (rules ++ record { number = n; rule = rule } ∷ []))))

  -- where a line that isn't passed over leads
  abbrev pub Moves : Position W → Numbered → Position W → Type 0
  Moves (Position.Outside found) line q = (name : Text) × ((name ≢ []) × HasWords line.bytes (bare (42 ∷ name) ∷ []) × Opens found name q)
  Moves (Position.Passing found) line q =
      (IsCommit line.bytes × (q ≡ Position.Outside found)) ⊎ ((IsCommit line.bytes → ⊥) × (q ≡ Position.Passing found))
  Moves (Position.Inside chains rules) line q = (words : List Word) × (HasWords line.bytes words × Adds chains rules line.number words q)

  -- where a line leads
  abbrev pub Step : Position W → Numbered → Position W → Type 0
  Step p line q = ((is_passed_over line.bytes ≡ true) × (q ≡ p)) ⊎ ((is_passed_over line.bytes ≡ false) × Moves p line q)

  -- where some lines lead
  abbrev pub Leads : Position W → List Numbered → Position W → Type 0
  Leads p [] q = q ≡ p
  Leads p (line ∷ lines) q = (m : Position W) × (Step p line m × Leads m lines q)
