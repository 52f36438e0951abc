-- How marks spread: a list of marked chains whose own calls are still to be followed.
use Rattle.std.specs.Prelude.{ℕ, ◌+◌, ◌≤◌, ◌≡◌, ◌⊎◌, Bool, not, List, length, Some, get_or, Contains}
use Rattle.std.specs.List.{count_by}
use Rattle.fw_rule.specs.declared.rule.Rule.{Rule}
use Rattle.fw_rule.specs.declared.rule.Dump.{Dump}
use Rattle.fw_rule.specs.Calls.{target_of, Calls}
use Rattle.chain_graph.specs.Marks.{IsMarked}

-- all chains of this kind have become marked, and those that became so now were put on the list
pub record Spread (Kind : ℕ → Type 0) (marks : List Bool) (todo : List ℕ) (marks' : List Bool) (todo' : List ℕ) : Type 0 where
  pub long : length marks' ≡ length marks
  pub kept : (c : ℕ) → IsMarked marks c → IsMarked marks' c
  pub stays : (c : ℕ) → Contains todo c → Contains todo' c
  pub new : (c : ℕ) → IsMarked marks' c → IsMarked marks c ⊎ (Kind c × Contains todo' c)
  pub put : (c : ℕ) → Contains todo' c → Contains todo c ⊎ Kind c
  pub all : (c : ℕ) → Kind c → IsMarked marks' c
  pub fewer : count_by not marks' + length todo' ≤ count_by not marks + length todo

module _ {P : Type 0} where
  -- one of these rules leads to the chain
  abbrev pub IsCalled : List (Rule P) → ℕ → Type 0
  IsCalled rules c = (rule : Rule P) × Contains rules rule × (target_of rule.action ≡ Some c)

  -- no call from a marked chain leads to a greater number
  abbrev pub NeverRises : Dump P → List Bool → List ℕ → Type 0
  NeverRises dump marks numbers = (a b : ℕ) → IsMarked marks a → Calls dump a b → get_or numbers b 0 ≤ get_or numbers a 0
