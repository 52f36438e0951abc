-- Rules of which no verdict is made.
use Rattle.std.specs.Prelude.{ℕ, ◌≡◌, List, length, drop, Some, unwrap_or, slice_get}
use Rattle.fw_rule.specs.declared.rule.Rule.{Rule}
use Rattle.fw_rule.specs.declared.rule.Dump.{Dump}
use Rattle.fw_rule.specs.declared.side.Side.{Side}
use Rattle.closure.specs.declared.ends.Ends.{Ends}
use Rattle.rewriting.specs.declared.rows.Mode.{Mode}
use Rattle.rewriting.specs.declared.rows.Mode.TheVariants.{Hard, Soft}
use Rattle.rewriting.specs.declared.rows.Row.{Row}
use Rattle.closure.specs.Rewriting.{Tree, Done, Decide, Leave, Block, items, rules_of, tree}

-- no verdict stands in the tree, at any depth
abbrev pub IsSilent : {P : Type 0} → Tree P → Type 0
IsSilent Done = Unit {0}
IsSilent (Decide e v rest) = ⊥
IsSilent (Leave e n rest) = IsSilent rest
IsSilent (Block e inner rest) = IsSilent inner × IsSilent rest

-- what a table has for a chain; 0 past its end
abbrev pub entry : List Ends → ℕ → Ends
entry table chain = unwrap_or (slice_get table chain) (record { hard = 0; soft = 0 })

-- the end in a mode
abbrev pub end_in : Ends → Mode → ℕ
end_in ends Hard = ends.hard
end_in ends (Soft j) = ends.soft

module _ (table : List Ends) where
  -- the table tells that no verdict is made of the chain
  abbrev pub MakesNone : ℕ → Mode → Type 0
  MakesNone c mode = (ends : Ends) × (slice_get table c ≡ Some ends) × (end_in ends mode ≡ 0)

  -- no verdict is made of the row itself
  abbrev pub IsQuiet : Row → Type 0
  IsQuiet Row.Skip = Unit {0}
  IsQuiet (Row.Decide v) = ⊥
  IsQuiet (Row.Leave n) = Unit {0}
  IsQuiet Row.LeaveLater = Unit {0}
  IsQuiet (Row.Run c mode) = MakesNone c mode
  IsQuiet (Row.RunThenLeave c mode) = MakesNone c mode
  IsQuiet (Row.RunLater c) = MakesNone c (Soft 1)

-- of none of these chains, where the table says so, a verdict is made
abbrev pub AreSilent : {P : Type 0} → List Ends → (ℕ → Mode → Tree P) → Type 0
AreSilent table callee = (c : ℕ) (mode : Mode) → MakesNone table c mode → IsSilent (callee c mode)

module _ {P : Type 0} (side : Side) where
  -- from its ends on no verdict is made of the rules
  abbrev pub EndsWith : List Ends → List (Rule P) → Ends → Type 0
  EndsWith table rules ends = (callee : ℕ → Mode → Tree P) → AreSilent table callee → (mode : Mode) → IsSilent (items side callee (drop (end_in ends mode) rules) mode)

  -- from there on no verdict is made of a chain's rules, however deep its calls are followed
  abbrev pub AreOver : Dump P → ℕ → Mode → ℕ → Type 0
  AreOver dump c mode n = (depth : ℕ) → IsSilent (items side (tree side dump depth) (drop n (rules_of dump c)) mode)

  -- the table has such ends of each chain
  pub record AreEnds (dump : Dump P) (table : List Ends) : Type 0 where
    pub long : length table ≡ length dump.chains
    pub each : (c : ℕ) (ends : Ends) → slice_get table c ≡ Some ends → (mode : Mode) → AreOver dump c mode (end_in ends mode)
