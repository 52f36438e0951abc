-- Call paths, and the longest of them.
use Rattle.std.specs.Prelude.{ℕ, suc, ◌<◌, ◌≤◌, ◌≡◌, List, [], ◌∷◌, length, Option, Some, slice_get, MatchOption}
use Rattle.fw_rule.specs.declared.rule.Dump.{Dump}
use Rattle.fw_rule.specs.Calls.{Calls, Reaches}
use Rattle.limits.specs.declared.TheConstants.{MOST_CHAINS}

module _ {P : Type 0} (dump : Dump P) where
  -- each call and goto names a chain
  abbrev pub CallsNameChains : Type 0
  CallsNameChains = (a b : ℕ) → Calls dump a b → b < length dump.chains

  -- the chain calls or goes to the first of these, and each of them the next
  abbrev pub Follow : ℕ → List ℕ → Type 0
  Follow c [] = Unit {0}
  Follow c (k ∷ ks) = Calls dump c k × Follow k ks

  -- a path of calls and gotos of `n` chains begins at the chain: the chain itself, and those that follow it
  abbrev pub HasPath : ℕ → ℕ → Type 0
  HasPath c n = (later : List ℕ) × Follow c later × (n ≡ suc (length later))

  -- the number of chains on the longest call path that begins at the chain
  abbrev pub IsRank : ℕ → ℕ → Type 0
  IsRank c r = HasPath c r × ((n : ℕ) → HasPath c n → n ≤ r)

  -- one item for each chain in order: a rank of at most `MOST_CHAINS` where the asked chain reaches the chain, and None
  -- where it doesn't
  abbrev pub AreRanks : ℕ → List (Option ℕ) → Type 0
  AreRanks asked ranks = (length ranks ≡ length dump.chains)
      × ((c : ℕ) (o : Option ℕ) → slice_get ranks c ≡ Some o →
      MatchOption o (Reaches dump asked c → ⊥) (λ r. Reaches dump asked c × IsRank c r × (r ≤ MOST_CHAINS)))
