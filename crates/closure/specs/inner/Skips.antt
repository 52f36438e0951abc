-- Rules that give no item, and where the next one stands that does.
use Rattle.std.specs.Prelude.{ℕ, zero, suc, ◌≡◌, ◌≤◌, ◌+◌, ◌-◌, Bool, true, false, List, length, drop, Some, slice_get}
use Rattle.fw_rule.specs.declared.rule.Rule.{Rule}
use Rattle.fw_rule.specs.declared.rule.Dump.{Dump}
use Rattle.fw_rule.specs.declared.side.Side.{Side}
use Rattle.rewriting.specs.declared.rows.Mode.{Mode}
use Rattle.rewriting.specs.declared.rows.Mode.TheVariants.{Hard, Soft}
use Rattle.closure.specs.declared.skips.Skips.{Skips}
use Rattle.closure.specs.Rewriting.{Tree, items, rules_of}

-- the softest mode
abbrev pub is_softest : Mode → Bool
is_softest Hard = false
is_softest (Soft zero) = true
is_softest (Soft (suc j)) = false

-- the list for a mode
abbrev pub list_in : Skips → Mode → List ℕ
list_in skips Hard = skips.firm
list_in skips (Soft zero) = skips.soft
list_in skips (Soft (suc j)) = skips.firm

module _ {P : Type 0} (side : Side) where
  -- the rules from one of them on and those from another on have the same items in a mode, whatever the called chains have
  abbrev pub HaveSame : List (Rule P) → Mode → ℕ → ℕ → Type 0
  HaveSame rules mode n k = (callee : ℕ → Mode → Tree P) → items side callee (drop n rules) mode ≡ items side callee (drop k rules) mode

  -- the list has, for each number of last rules, a place from which on the items are the same, in each mode that is the softest one where this is
  pub record Leads (rules : List (Rule P)) (mode : Mode) (list : List ℕ) : Type 0 where
    pub long : length list ≡ length rules + 1
    pub each : (p k : ℕ) → slice_get list p ≡ Some k → (length rules - p ≤ k) × ((m : Mode) → is_softest m ≡ is_softest mode → HaveSame rules m (length rules - p) k)

  -- such lists of a chain's rules
  pub record IsSkips (rules : List (Rule P)) (skips : Skips) : Type 0 where
    pub firm : Leads rules Hard skips.firm
    pub soft : Leads rules (Soft 0) skips.soft

  -- the table has them of each chain
  pub record AreSkips (dump : Dump P) (table : List Skips) : Type 0 where
    pub long : length table ≡ length dump.chains
    pub each : (c : ℕ) (skips : Skips) → slice_get table c ≡ Some skips → IsSkips (rules_of dump c) skips
