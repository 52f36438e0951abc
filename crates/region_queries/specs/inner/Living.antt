-- Paths that a walk can go, and what is answered of one visit.
use Rattle.std.specs.Prelude.{ℕ, ◌≤◌, ◌≡◌, List, [], ◌∷◌, Option, Some, length, MatchOption}
use Rattle.primitives.specs.declared.prim.Packet.{Packet}
use Rattle.primitives.specs.declared.prim.Prim_.{Prim_}
use Rattle.primitives.specs.Holds.{IsValid, holds_of}
use Rattle.fw_rule.specs.declared.rule.Rule.{Rule}
use Rattle.fw_rule.specs.declared.rule.Dump.{Dump}
use Rattle.fw_rule.specs.Walk.{May, Path, target_of}
use Rattle.fw_laws.specs.Shape.{rule_at}
use Rattle.chain_graph.specs.Visits.{HasVisits}
use Rattle.simple_filter.specs.declared.refusal.Refusal.{Refusal}
use Rattle.region_queries.specs.declared.visiting.TheConstants.{MOST_LISTED_VISITS}
use Rattle.region_queries.specs.Dead.{PassesLimit}

module _ {P : Type 0} (dump : Dump P) where
  -- each of these steps is a rule of the chain that the one before it leads to, the first of this chain
  abbrev pub Follows : Option ℕ → Path → Type 0
  Follows o [] = Unit {0}
  Follows o (v ∷ vs) = (o ≡ Some v.chain) × (rule : Rule P) × (rule_at dump v.chain v.rule ≡ Some rule) × Follows (target_of rule.action) vs

  -- so do those of a visit of the asked chain, which has at least one
  pub record IsVisit (asked : ℕ) (visit : Path) : Type 0 where
    pub follows : Follows (Some asked) visit
    pub some : 1 ≤ length visit

  -- the chain has no more visits than may be listed
  abbrev pub HasFew : ℕ → Type 0
  HasFew chain = (n : ℕ) → HasVisits dump chain n → n ≤ MOST_LISTED_VISITS

module _ {W : ℕ} (probe : Dump (Prim_ W)) (entry : ℕ) where
  -- the probe may accept no valid packet, or it may accept this valid one
  abbrev pub TellsOf : Option Packet → Type 0
  TellsOf o = MatchOption o ((p : Packet) → IsValid W p → ¬ May holds_of probe entry p) (λ p. IsValid W p × May holds_of probe entry p)

  -- when there is no answer of a probe: it passes a limit. Want of memory tells nothing
  abbrev pub RefusesProbe : Refusal → Type 0
  RefusesProbe (Refusal.Unsupported line name) = ⊥
  RefusesProbe (Refusal.Loop c) = ⊥
  RefusesProbe (Refusal.Limit kind) = PassesLimit probe entry kind
  RefusesProbe Refusal.Memory = Unit {0}
