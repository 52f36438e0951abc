-- Marks on chains, and the rules of a chain.
use Rattle.std.specs.Prelude.{ℕ, ◌≡◌, Bool, true, false, List, Some, slice_get, get_or}
use Rattle.fw_rule.specs.declared.rule.Rule.{Rule}
use Rattle.fw_rule.specs.declared.rule.Chain.{Chain}
use Rattle.fw_rule.specs.declared.rule.Dump.{Dump}

-- the chain is marked
abbrev pub IsMarked : List Bool → ℕ → Type 0
IsMarked marks c = get_or marks c false ≡ true

-- the marks are on the chains of this kind alone, and on each of them
abbrev pub MarksAre : (ℕ → Type 0) → List Bool → Type 0
MarksAre Kind marks = (c : ℕ) → (IsMarked marks c → Kind c) × (Kind c → IsMarked marks c)

-- these are the chain's rules
abbrev pub AreRulesOf : {P : Type 0} → Dump P → ℕ → List (Rule P) → Type 0
AreRulesOf {P} dump c rules = (here : Chain P) × (slice_get dump.chains c ≡ Some here) × (rules ≡ here.rules)
