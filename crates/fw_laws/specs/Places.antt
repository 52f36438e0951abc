-- The places that a walk comes to.
use Rattle.std.specs.Prelude.{ℕ, ◌≡◌, ◌<◌, Bool, List, [], ◌∷◌, ◌++◌, Some, slice_get}
use Rattle.std.specs.List.{list_any}
use Rattle.fw_rule.specs.declared.rule.Lit.{Lit}
use Rattle.fw_rule.specs.declared.rule.Rule.{Rule}
use Rattle.fw_rule.specs.declared.rule.Dump.{Dump}
use Rattle.fw_rule.specs.declared.rule.Place.{Place}
use Rattle.fw_rule.specs.Walk.{Path, Meaning, At, Frame, same_place, policy_of, after}
use Rattle.fw_laws.specs.Shape.{rule_at}

module _ {P Packet : Type 0} (holds : P → Packet → Bool) (dump : Dump P) (p : Packet) where
  -- after so many steps the walk of the asked chain stands where the place's last step says, over its calls and gotos; the place's literal doesn't matter here
  pub record Visits (m : Meaning) (asked count : ℕ) (place : Place) : Type 0 where
    pub chain : ℕ
    pub next : ℕ
    pub calls : Path
    pub frames : List Frame
    pub stands : after holds dump p m (policy_of dump asked) count (At asked 0 [] [])
        ≡ Some (At chain next calls frames)
    pub steps : place.steps ≡ calls ++ record { chain = chain; rule = next } ∷ []

  -- the walk of the asked chain comes to the rule of the place, and the literal there is unknown; whether other literals of the rule hold doesn't matter
  pub record Asks (m : Meaning) (asked : ℕ) (place : Place) : Type 0 where
    pub count : ℕ
    pub visit : Visits m asked count place
    pub rule : Rule P
    pub text : List ℕ
    pub at : rule_at dump visit.chain visit.next ≡ Some rule
    pub unknown : slice_get rule.lits place.lit ≡ Some (Lit.Unknown text)

  -- no walk comes to a place twice
  abbrev pub NoPlaceTwice : Type 0
  NoPlaceTwice = (m : Meaning) (asked j k : ℕ) (place : Place) → j < k → Visits m asked j place → ¬ Visits m asked k place

  -- both meanings say the same of each place that the walk under the first of them asks for
  abbrev pub AgreeOnWay : Meaning → Meaning → ℕ → Type 0
  AgreeOnWay m w asked = (place : Place) → Asks m asked place → list_any (same_place place) m ≡ list_any (same_place place) w

  -- two meanings that agree on the places that the walk under the first asks for have the same walk
  abbrev pub OthersDontMatter : Type 0
  OthersDontMatter = (m w : Meaning) (asked : ℕ) → AgreeOnWay m w asked →
      (k : ℕ) → after holds dump p m (policy_of dump asked) k (At asked 0 [] [])
      ≡ after holds dump p w (policy_of dump asked) k (At asked 0 [] [])
