-- What is known of chains in the middle of ranking them.
use Rattle.std.specs.Prelude.{ℕ, ◌-◌, ◌^◌, ◌≡◌, ◌⊎◌, min, List, length, Option, Some, slice_get}
use Rattle.fw_rule.specs.declared.rule.Dump.{Dump}
use Rattle.fw_rule.specs.Calls.{Calls, Reaches, Within}
use Rattle.chain_graph.specs.declared.ranking.Found.{Found}
use Rattle.chain_graph.specs.Paths.{HasPath}
use Rattle.chain_graph.specs.Visits.{HasVisits}

-- the table has this for the chain
abbrev pub Has : List (Option Found) → ℕ → Found → Type 0
Has table c f = slice_get table c ≡ Some (Some f)

-- a sum that stops at 2^64 - 1
abbrev pub IsCapped : ℕ → ℕ → Type 0
IsCapped n sum = n ≡ min sum (2 ^ 64 - 1)

module _ {P : Type 0} (dump : Dump P) where
  -- a chain's rank and visits
  pub record IsRight (c : ℕ) (f : Found) : Type 0 where
    pub within : Within dump f.rank c
    pub path : HasPath dump c f.rank
    pub visits : (n : ℕ) × HasVisits dump c n × IsCapped f.visits n

  -- what the table has is right, and with a chain it has those that the chain calls
  pub record IsTable (table : List (Option Found)) : Type 0 where
    pub long : length table ≡ length dump.chains
    pub right : (c : ℕ) (f : Found) → Has table c f → IsRight c f
    pub below : (c : ℕ) (f : Found) → Has table c f → (k : ℕ) → Calls dump c k → (g : Found) × Has table k g

  -- the table has still each chain that it had, and what came to it is reached from the chain
  pub record Grows (chain : ℕ) (table table' : List (Option Found)) : Type 0 where
    pub kept : (c : ℕ) (f : Found) → Has table c f → (g : Found) × Has table' c g
    pub new : (c : ℕ) (f : Found) → Has table' c f → Has table c f ⊎ Reaches dump chain c
