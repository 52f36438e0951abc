-- How many items and literals a rewriting has, as sums that stop at the greatest number of their type.
use Rattle.std.specs.Prelude.{ℕ, zero, suc, ◌+◌, ◌-◌, ◌^◌, min, List, [], ◌∷◌, unwrap_or, slice_get}
use Rattle.fw_rule.specs.declared.rule.Rule.{Rule}
use Rattle.fw_rule.specs.Matching.{doubt_in}
use Rattle.closure.specs.declared.counting.Counts.{Counts}
use Rattle.rewriting.specs.declared.rows.Mode.{Mode}
use Rattle.rewriting.specs.declared.rows.Mode.TheVariants.{Hard, Soft}
use Rattle.rewriting.specs.declared.rows.Row.{Row}
use Rattle.fw_rule.specs.declared.side.Side.{Side}
use Rattle.rewriting.specs.Table.{kind, row_of}

-- a sum stops at 2^64 - 1
abbrev pub capped : ℕ → ℕ
capped n = min n (2 ^ 64 - 1)

-- the number that counts in a mode: a soft mode that leaves more than its own block has as many items as the hard one
abbrev pub in_mode : Counts → Mode → ℕ
in_mode counts Hard = counts.hard
in_mode counts (Soft zero) = counts.soft
in_mode counts (Soft (suc j)) = counts.hard

-- what a table has for a chain; 0 past its end
abbrev pub entry : List Counts → ℕ → Counts
entry table chain = unwrap_or (slice_get table chain) (record { hard = 0; soft = 0 })

-- the items of a row and of the rest
abbrev pub row_items : (ℕ → Mode → ℕ) → (Mode → ℕ) → Mode → Row → ℕ
row_items callee rest mode Row.Skip = rest mode
row_items callee rest mode (Row.Decide v) = suc (rest mode)
row_items callee rest mode (Row.Leave n) = suc (rest mode)
row_items callee rest mode Row.LeaveLater = suc (rest (Soft 0) + suc (rest mode))
row_items callee rest mode (Row.Run chain inner) = suc (callee chain inner + rest mode)
row_items callee rest mode (Row.RunThenLeave chain inner) = suc (callee chain inner + suc (rest mode))
row_items callee rest mode (Row.RunLater chain) = suc (rest (Soft 0) + suc (suc (callee chain (Soft 1) + 1) + rest mode))

module _ {P : Type 0} (side : Side) where
  -- the same of a rule in a mode, where the table has the called chains' numbers
  abbrev pub rule_items : List Counts → Rule P → Counts → Mode → ℕ
  rule_items table rule rest mode =
      capped (row_items (λ (chain : ℕ). in_mode (entry table chain)) (in_mode rest) mode (row_of side (doubt_in rule.lits) (kind side rule.action) mode))

  -- of a chain's rules, in both modes
  abbrev pub rules_items : List Counts → List (Rule P) → Counts
  rules_items table [] = record { hard = 0; soft = 0 }
  rules_items table (rule ∷ rules) = record {
    hard = rule_items table rule (rules_items table rules) Hard;
    soft = rule_items table rule (rules_items table rules) (Soft 0);
  }
