-- Whether a verdict can be reached from a rule of a chain on, told without meanings.
use Rattle.std.specs.Prelude.{ℕ, ◌+◌, ◌≡◌, ◌↔◌, Bool, true, false, List, [], ◌∷◌, ◌++◌, Some, Option}
use Rattle.fw_rule.specs.declared.rule.Verdict.{Verdict}
use Rattle.fw_rule.specs.declared.rule.Action.{Action}
use Rattle.fw_rule.specs.declared.rule.Lit.{Lit}
use Rattle.fw_rule.specs.declared.rule.Rule.{Rule}
use Rattle.fw_rule.specs.declared.rule.Chain.{Chain}
use Rattle.fw_rule.specs.declared.rule.Dump.{Dump}
use Rattle.fw_rule.specs.declared.rule.Place.{Place}
use Rattle.fw_rule.specs.Walk.{Path, State, At, Ended, Frame, act, back, step, known_holds}
use Rattle.explain.specs.declared.reach.Match.{Match}
use Rattle.explain.specs.declared.reach.Reach.{Reach}
use Rattle.explain.specs.Choices.{HasChoice, NoChoice, unknown_places}

-- whether a literal holds as far as it is known
abbrev pub may_hold : {P Packet : Type 0} → (P → Packet → Bool) → Packet → Lit P → Bool
may_hold holds p (Lit.Known neg expr) = known_holds holds p neg expr
may_hold holds p (Lit.Unknown text) = true

-- how a rule matches, by whether its known literals hold and whether it is doubtful
abbrev pub match_of : Bool → Bool → Match
match_of false doubtful = Match.Fails
match_of true false = Match.Holds
match_of true true = Match.Doubtful

-- the better of two
abbrev pub better : Reach → Reach → Reach
better Reach.Inside other = Reach.Inside
better Reach.PastEnd Reach.Inside = Reach.Inside
better Reach.PastEnd Reach.PastEnd = Reach.PastEnd
better Reach.PastEnd Reach.Never = Reach.PastEnd
better Reach.Never other = other

-- through a chain that is called, and on behind the call
abbrev pub through : Reach → Reach → Reach
through Reach.Inside behind = Reach.Inside
through Reach.PastEnd behind = behind
through Reach.Never behind = Reach.Never

-- of a verdict
abbrev pub by_verdict : Verdict → Verdict → Reach
by_verdict Verdict.Accept Verdict.Accept = Reach.Inside
by_verdict Verdict.Drop Verdict.Drop = Reach.Inside
by_verdict Verdict.Accept Verdict.Drop = Reach.Never
by_verdict Verdict.Drop Verdict.Accept = Reach.Never

-- of a rule that is taken, where `callee` is that of the chain that it calls or goes to: a goto that is taken reaches what
-- that chain reaches, and what stands behind it isn't met
abbrev pub by_action : Verdict → Reach → Reach → Action → Reach
by_action v callee behind Action.Accept = by_verdict v Verdict.Accept
by_action v callee behind Action.Drop = by_verdict v Verdict.Drop
by_action v callee behind Action.Pass = behind
by_action v callee behind Action.Back = Reach.PastEnd
by_action v callee behind (Action.Call k) = through callee behind
by_action v callee behind (Action.Goto k) = callee
by_action v callee behind (Action.Other name) = Reach.Never

-- of a rule that is taken or passed over as it matches
abbrev pub by_match : Match → Reach → Reach → Reach
by_match Match.Fails taken behind = behind
by_match Match.Holds taken behind = taken
by_match Match.Doubtful taken behind = better taken behind

-- whether the verdict is reached, by whether it can be from the chain's end on
abbrev pub is_reached : Reach → Bool → Bool
is_reached Reach.Never past_end = false
is_reached Reach.PastEnd past_end = past_end
is_reached Reach.Inside past_end = true

module _ {P Packet : Type 0} (holds : P → Packet → Bool) (dump : Dump P) (p : Packet) where
  -- a walk from a chain with this policy
  module _ (policy : Option Verdict) (v : Verdict) where
    -- to the verdict, passing over or taking a rule at each choice, with the places of all unknown literals of the rules
    -- that it takes
    pub data Goes : State → List Place → Type 0 where
      Arrived : Goes (Ended v) []
      Stepped : {s t : State} {places : List Place} → NoChoice holds dump p s → step holds dump p [] policy s ≡ Some t →
          Goes t places → Goes s places
      Passed : {chain next : ℕ} {path : Path} {frames : List Frame} {places : List Place}
          (here : Chain P) (rule : Rule P) → HasChoice holds dump p chain next here rule →
          Goes (At chain (next + 1) path frames) places → Goes (At chain next path frames) places
      Taken : {chain next : ℕ} {path : Path} {frames : List Frame} {t : State} {places : List Place}
          (here : Chain P) (rule : Rule P) → HasChoice holds dump p chain next here rule →
          act policy chain next path frames rule.action ≡ Some t → Goes t places →
          Goes (At chain next path frames)
          (unknown_places (path ++ record { chain = chain; rule = next } ∷ []) 0 rule.lits ++ places)

    -- some choices lead from the state to the verdict
    abbrev pub Leads : State → Type 0
    Leads s = (places : List Place) × Goes s places

    -- they do from where the frames say
    abbrev pub LeadsBack : List Frame → Type 0
    LeadsBack frames = (t : State) × (back policy frames ≡ Some t) × Leads t

    -- what a reach says under these frames
    abbrev pub ReachedBy : Reach → List Frame → Type 0
    ReachedBy Reach.Never frames = ⊥
    ReachedBy Reach.PastEnd frames = LeadsBack frames
    ReachedBy Reach.Inside frames = Unit {0}

  -- from the rule `next` of the chain on this is reached, whatever the policy, the path and the frames
  abbrev pub ReachIs : Verdict → ℕ → ℕ → Reach → Type 0
  ReachIs v c next r = (policy : Option Verdict) (path : Path) (frames : List Frame) →
      Leads policy v (At c next path frames) ↔ ReachedBy policy v r frames
