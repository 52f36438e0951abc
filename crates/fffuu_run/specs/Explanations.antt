-- The text that explains how a packet is accepted and how it is dropped.
use Rattle.std.specs.Prelude.{ℕ, ◌≡◌, ◌<◌, Bool, List, [], ◌∷◌, ◌++◌, Option, None, Some, codes, decimal, length}
use Rattle.fw_rule.specs.declared.rule.Verdict.{Verdict}
use Rattle.fw_rule.specs.declared.rule.Dump.{Dump}
use Rattle.fw_rule.specs.declared.rule.Place.{Place}
use Rattle.explain.specs.Answers.{IsExplained}
use Rattle.fw_text.specs.Places.{place_text}
use Rattle.primitives.specs.Holds.{holds_of}
use Rattle.primitives.specs.declared.prim.Packet.{Packet}
use Rattle.chain_graph.specs.Visits.{HasVisits}
use Rattle.limits.specs.declared.TheConstants.{MOST_VISITS}
use Rattle.simple_filter.specs.declared.refusal.Kind.{Kind}
use Rattle.fffuu_run.specs.Checks.{IsCheckOver}
use Rattle.fffuu_run.specs.Questions.{Answers, RefusesQuestion}
use Rattle.fffuu_run.specs.declared.status.Status.{Status}

module _ {P : Type 0} (dump : Dump P) where
  -- a line for each place
  abbrev pub place_lines : List Place → List ℕ
  place_lines [] = []
  place_lines (place ∷ places) = place_text dump place ++ 10 ∷ place_lines places

  -- the verdict's word, and that it never comes, or under how many literals and under which
  abbrev pub explanation_text : List ℕ → Option (List Place) → List ℕ
  explanation_text word None = word ++ (codes " never" ++ 10 ∷ [])
  explanation_text word (Some places) = (word ++ (codes " under " ++ (decimal (length places) ++ 10 ∷ []))) ++ place_lines places

  -- the explanation of Accept, then that of Drop
  abbrev pub both_texts : Option (List Place) → Option (List Place) → List ℕ
  both_texts accept drop = explanation_text (codes "accept") accept ++ explanation_text (codes "drop") drop

-- this is the text of the two explanations of the packet: the places of each are a meaning whose walk has the verdict,
-- and `never` stands exactly where no meaning's walk has it
pub record Explained {P Packet : Type 0} (holds : P → Packet → Bool) (dump : Dump P) (chain : ℕ) (p : Packet)
    (written : List ℕ) : Type 0 where
  pub accept : Option (List Place)
  pub drop : Option (List Place)
  pub accepted : IsExplained holds dump p chain Verdict.Accept accept
  pub dropped : IsExplained holds dump p chain Verdict.Drop drop
  pub written_is : written ≡ both_texts dump accept drop

module _ {P : Type 0} (dump : Dump P) (chain : ℕ) where
  -- a call path from the chain is too long, or its visits are too many
  abbrev pub IsExplanationOver : Kind → Type 0
  IsExplanationOver Kind.Visits = (n : ℕ) × HasVisits dump chain n × (MOST_VISITS < n)
  IsExplanationOver kind = IsCheckOver dump chain kind

-- `Reads` says which text is one of which address of `W` bits
module _ (W : ℕ) (Reads : List ℕ → ℕ → Type 0) (name text : List ℕ) where
  -- this is the text of the packet's explanations in the chain of this name of the dump that the text is
  abbrev pub Explanations : Packet → List ℕ → Type 0
  Explanations p written =
      Answers W Reads name text (λ dump chain. IsExplanationOver dump chain)
      (λ dump chain. Explained holds_of dump chain p written)

  -- why there is none
  abbrev pub RefusesExplanation : Status → Type 0
  RefusesExplanation s = RefusesQuestion W Reads name text (λ dump chain. IsExplanationOver dump chain) s
