-- What a check of a chain answers to a text.
use Rattle.std.specs.Prelude.{ℕ, suc, ◌≡◌, List}
use Rattle.fw_rule.specs.declared.rule.Dump.{Dump}
use Rattle.chain_graph.specs.Paths.{HasPath}
use Rattle.limits.specs.declared.TheConstants.{MOST_CHAINS}
use Rattle.simple_filter.specs.declared.refusal.Kind.{Kind}
use Rattle.fffuu_run.specs.Counts.{counts_line}
use Rattle.fffuu_run.specs.Questions.{Answers, RefusesQuestion}
use Rattle.fffuu_run.specs.declared.status.Status.{Status}

module _ {P : Type 0} (dump : Dump P) (chain : ℕ) where
  -- a call path from the chain is too long
  abbrev pub IsCheckOver : Kind → Type 0
  IsCheckOver Kind.Depth = HasPath dump chain (suc MOST_CHAINS)
  IsCheckOver kind = ⊥

-- `Reads` says which text is one of which address of `W` bits
module _ (W : ℕ) (Reads : List ℕ → ℕ → Type 0) (name text : List ℕ) where
  -- this is the line of the counts of the dump that the text is
  abbrev pub Checks : List ℕ → Type 0
  Checks written =
      Answers W Reads name text (λ dump chain. IsCheckOver dump chain) (λ dump chain. written ≡ counts_line dump)

  -- why there is none
  abbrev pub RefusesCheck : Status → Type 0
  RefusesCheck s = RefusesQuestion W Reads name text (λ dump chain. IsCheckOver dump chain) s
