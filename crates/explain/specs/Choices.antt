-- The walk that is chosen to explain a verdict, and the places that it takes to hold.
use Rattle.std.specs.Prelude.{ℕ, ◌+◌, ◌≡◌, Bool, true, List, [], ◌∷◌, ◌++◌, Option, Some, slice_get}
use Rattle.match_expr.specs.Meaning.{eval_of}
use Rattle.fw_rule.specs.declared.rule.Verdict.{Verdict}
use Rattle.fw_rule.specs.declared.rule.Lit.{Lit}
use Rattle.fw_rule.specs.declared.rule.Rule.{Rule}
use Rattle.fw_rule.specs.declared.rule.Chain.{Chain}
use Rattle.fw_rule.specs.declared.rule.Dump.{Dump}
use Rattle.fw_rule.specs.declared.rule.Place.{Place}
use Rattle.fw_rule.specs.Walk.{Path, Meaning, State, At, Ended, Frame, act, step, after, known_of, doubt_in}

-- the places of the unknown literals at a path, in order, the first of the literals with the number `l`
abbrev pub unknown_places : {P : Type 0} → Path → ℕ → List (Lit P) → List Place
unknown_places path l [] = []
unknown_places path l (Lit.Known neg expr ∷ lits) = unknown_places path (l + 1) lits
unknown_places path l (Lit.Unknown text ∷ lits) = record { steps = path; lit = l } ∷ unknown_places path (l + 1) lits

module _ {P Packet : Type 0} (holds : P → Packet → Bool) (dump : Dump P) (p : Packet) where
  -- before the rule `next` of a chain there is a choice where the known literals of the rule hold and it has an unknown
  -- one
  pub record HasChoice (chain next : ℕ) (here : Chain P) (rule : Rule P) : Type 0 where
    pub at_chain : slice_get dump.chains chain ≡ Some here
    pub at_rule : slice_get here.rules next ≡ Some rule
    pub known : eval_of (λ x. holds x p) (known_of rule) ≡ true
    pub doubtful : doubt_in rule.lits ≡ true

  -- elsewhere there is none: the step is the same under each meaning
  abbrev pub NoChoice : State → Type 0
  NoChoice (At chain next path frames) = (here : Chain P) (rule : Rule P) → HasChoice chain next here rule → ⊥
  NoChoice (Ended v) = Unit {0}

  -- a walk from a chain with this policy
  module _ (policy : Option Verdict) where
    -- the verdict can be reached from the state: some meaning's walk from there has it
    abbrev pub Can : State → Verdict → Type 0
    Can s v = (m : Meaning) × (k : ℕ) × (after holds dump p m policy k s ≡ Some (Ended v))

    module _ (v : Verdict) where
      -- the chosen walk from a state to the verdict, with the places of all unknown literals of the rules that it takes,
      -- in order of visit: at each choice it passes the rule over where the verdict can still be reached behind it, and
      -- else takes it
      pub data ExplainsFrom : State → List Place → Type 0 where
        Arrives : ExplainsFrom (Ended v) []
        Steps : {s t : State} {places : List Place} → NoChoice s → step holds dump p [] policy s ≡ Some t →
            ExplainsFrom t places → ExplainsFrom s places
        SkipsRule : {chain next : ℕ} {path : Path} {frames : List Frame} {places : List Place}
            (here : Chain P) (rule : Rule P) → HasChoice chain next here rule → Can (At chain (next + 1) path frames) v →
            ExplainsFrom (At chain (next + 1) path frames) places → ExplainsFrom (At chain next path frames) places
        TakesRule : {chain next : ℕ} {path : Path} {frames : List Frame} {t : State} {places : List Place}
            (here : Chain P) (rule : Rule P) → HasChoice chain next here rule → ¬ Can (At chain (next + 1) path frames) v →
            act policy chain next path frames rule.action ≡ Some t → ExplainsFrom t places →
            ExplainsFrom (At chain next path frames)
            (unknown_places (path ++ record { chain = chain; rule = next } ∷ []) 0 rule.lits ++ places)
