-- The visits of a chain: over which rules each rule is met.
use Rattle.std.specs.Prelude.{ℕ, ◌+◌, ◌<◌, ◌≤◌, ◌≡◌, Bool, true, List, [], ◌∷◌, ◌++◌, None, Some}
use Rattle.fw_rule.specs.declared.rule.Rule.{Rule}
use Rattle.fw_rule.specs.declared.rule.Dump.{Dump}
use Rattle.fw_rule.specs.Walk.{IsPast, Meaning, Path, matches, target_of}
use Rattle.fw_laws.specs.Frames.{step_of}
use Rattle.fw_laws.specs.Places.{Visits}
use Rattle.fw_laws.specs.Shape.{rule_at}
use Rattle.chain_graph.specs.Visits.{HasVisits}
use Rattle.region_queries.specs.declared.visiting.TheConstants.{MOST_LISTED_VISITS}

module _ {P : Type 0} (dump : Dump P) where
  -- A visit is the path that ends with a rule. These are the visits from the rule `next` of a chain on, which is reached over
  -- the path: the rule's own, then those inside the chain that it calls or goes to, then those from the next rule on.
  pub data VisitsFrom : ℕ → ℕ → Path → List Path → Type 0 where
    AtEnd : {chain next : ℕ} {path : Path} → IsPast dump chain next → VisitsFrom chain next path []
    Plain : {chain next : ℕ} {path : Path} {later : List Path} (rule : Rule P) → rule_at dump chain next ≡ Some rule →
        target_of rule.action ≡ None → VisitsFrom chain (next + 1) path later →
        VisitsFrom chain next path ((path ++ step_of chain next ∷ []) ∷ later)
    Called : {chain next : ℕ} {path : Path} {inside later : List Path} (rule : Rule P) (k : ℕ) →
        rule_at dump chain next ≡ Some rule → target_of rule.action ≡ Some k →
        VisitsFrom k 0 (path ++ step_of chain next ∷ []) inside → VisitsFrom chain (next + 1) path later →
        VisitsFrom chain next path ((path ++ step_of chain next ∷ []) ∷ inside ++ later)

  module _ (asked : ℕ) where
    -- the visits of the asked chain
    abbrev pub AreVisits : List Path → Type 0
    AreVisits visits = VisitsFrom asked 0 [] visits

    -- they are no more than may be listed
    abbrev pub FewVisits : Type 0
    FewVisits = (n : ℕ) × HasVisits dump asked n × (n ≤ MOST_LISTED_VISITS)

    -- they are more
    abbrev pub ManyVisits : Type 0
    ManyVisits = (n : ℕ) × HasVisits dump asked n × (MOST_LISTED_VISITS < n)

module _ {P Packet : Type 0} (holds : P → Packet → Bool) (dump : Dump P) (asked : ℕ) (visit : Path) where
  -- under the meaning the walk of the packet comes to the visit's last rule over the calls and gotos before it, and the rule
  -- matches there
  pub record Triggers (p : Packet) (m : Meaning) : Type 0 where
    pub count : ℕ
    pub comes : Visits holds dump p m asked count (record { steps = visit; lit = 0 })
    pub rule : Rule P
    pub at : rule_at dump comes.chain comes.next ≡ Some rule
    pub it_matches : matches holds p m visit rule ≡ true
