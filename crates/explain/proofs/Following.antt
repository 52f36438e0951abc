-- The walk under the places of a walk with choices follows it, and each walk to a verdict is one with choices.
use Rattle.std.specs.Prelude.{ℕ, zero, suc, ◌+◌, ◌≡◌, Bool, true, false, ◌||◌, List, [], ◌∷◌, ◌++◌, Option, Some, refl}
use Rattle.std.proofs.Common.{subst, sym, ap, ◌∙◌, append_assoc}
use Rattle.std.specs.List.{AllByRecursion}
use Rattle.std.proofs.lemmas.List.Folds.{list_any-append}
use Rattle.std.proofs.lemmas.Option.{option_and_then_some}
use Rattle.basics.proofs.Lists.{each_append, each_weaker}
use Rattle.fw_rule.specs.declared.rule.Verdict.{Verdict}
use Rattle.fw_rule.specs.declared.rule.Lit.{Lit}
use Rattle.fw_rule.specs.declared.rule.Rule.{Rule}
use Rattle.fw_rule.specs.declared.rule.Chain.{Chain}
use Rattle.fw_rule.specs.declared.rule.Dump.{Dump}
use Rattle.fw_rule.specs.declared.rule.Place.{Place}
use Rattle.fw_rule.specs.Walk.{Path, Meaning, State, At, Ended, Frame, act, step, after, matches, same_place}
use Rattle.fw_rule.proofs.Ends.{one_more}
use Rattle.fw_laws.proofs.Moves.{On, move}
use Rattle.fw_laws.proofs.SamePlace.{place_from_same}
use Rattle.explain.specs.Choices.{HasChoice, Arrives, Steps, SkipsRule, TakesRule, ExplainsFrom, unknown_places}
use Rattle.explain.specs.inner.Reaching.{Goes, Arrived, Stepped, Passed, Taken}
use Rattle.fw_laws.specs.Frames.{step_of}
use Rattle.fw_laws.proofs.Order.{Before, never_itself, FitsAt, Behind, behind_both, Moved, moved}
use Rattle.explain.proofs.Literals.{has_place, in_middle, known_is, taken, passed_over}
use Rattle.explain.proofs.Turning.{Turn, Plain, PassesOver, GoesThrough, turn, plain_step, over_step, through_step, own_match}

-- the places of a rule's own literals stand at its path
each_own : {P : Type 0} (Q : Path → Type 0) (q : Path) (l : ℕ) (lits : List (Lit P)) → Q q → AllByRecursion (λ (b : Place). Q b.steps) (unknown_places q l lits)
each_own Q q l [] h = tt
each_own Q q l (Lit.Known neg e ∷ lits) h = each_own Q q (l + 1) lits h
each_own Q q l (Lit.Unknown text ∷ lits) h = (h, each_own Q q (l + 1) lits h)

-- a meaning whose places stand elsewhere has no place here
absent : (q : Path) (i : ℕ) (m : Meaning) → AllByRecursion (λ (b : Place). b.steps ≡ q → ⊥) m → has_place q i m ≡ false
absent q i [] h = refl
absent q i (b ∷ m) h = by (same_place (record { steps = q; lit = i }) b) refl (absent q i m h.1)
  where
    by : (t : Bool) → same_place (record { steps = q; lit = i }) b ≡ t → has_place q i m ≡ false → has_place q i (b ∷ m) ≡ false
    by true e rest = absurd (h.0 (ap (λ (z : Place). z.steps) (sym (place_from_same (record { steps = q; lit = i }) b e))))
    by false e rest = ap (λ (t : Bool). t || has_place q i m) e ∙ rest

absent_both : (q : Path) (i : ℕ) (a b : Meaning) → AllByRecursion (λ (x : Place). Before x.steps q) a → AllByRecursion (λ (x : Place). Before q x.steps) b → has_place q i (a ++ b) ≡ false
absent_both q i a b h g =
    list_any-append (same_place (record { steps = q; lit = i })) a b
    ∙ ap (λ (t : Bool). t || has_place q i b)
    (absent q i a (each_weaker (λ (x : Place). Before x.steps q) (λ (x : Place). x.steps ≡ q → ⊥) (λ x l e. never_itself q (subst (λ (z : Path). Before z q) e l)) a h))
    ∙ absent q i b (each_weaker (λ (x : Place). Before q x.steps) (λ (x : Place). x.steps ≡ q → ⊥) (λ x l e. never_itself q (subst (λ (z : Path). Before q z) e l)) b g)

module _ {P Packet : Type 0} (holds : P → Packet → Bool) (dump : Dump P) (p : Packet) (policy : Option Verdict) (v : Verdict) where
  abbrev GoesTo : State → List Place → Type 0
  GoesTo = Goes holds dump p policy v

  module _ (c next : ℕ) (path : Path) (frames : List Frame) (fits : FitsAt (At c next path frames)) where
    abbrev pos : Path
    pos = path ++ step_of c next ∷ []

    by_step : (m : Meaning) (t : State) → step holds dump p m policy (At c next path frames) ≡ Some t → Moved pos t
    by_step m t e = moved dump c next path frames t fits (move dump c next path frames t holds p m policy e)

    by_pass : Moved pos (At c (next + 1) path frames)
    by_pass = moved dump c next path frames (At c (next + 1) path frames) fits (On refl)

    by_act : (here : Chain P) (rule : Rule P) (t : State) → HasChoice holds dump p c next here rule → act policy c next path frames rule.action ≡ Some t → Moved pos t
    by_act here rule t ch e = by_step (unknown_places pos 0 rule.lits) t
        (through_step holds dump p policy c next path frames (unknown_places pos 0 rule.lits) here rule ch (own_match holds dump p policy c next path frames rule ch.known) ∙ e)

  -- the places of a walk stand behind what its state stands behind
  places_behind : (s : State) (places : List Place) → GoesTo s places → FitsAt s → (q : Path) → Behind q s → AllByRecursion (λ (b : Place). Before q b.steps) places
  places_behind s places Arrived fits q h = tt
  places_behind s places (Stepped {s = Ended w} {t = t} none e g) fits q h = cc
  places_behind s places (Stepped {s = At c next path frames} {t = t} {places = rest} none e g) fits q h =
      let mv = by_step c next path frames fits [] t e in
      places_behind t rest g mv.0 q (behind_both q (path ++ step_of c next ∷ []) t h mv.1)
  places_behind s places (Passed {chain = c} {next = next} {path = path} {frames = frames} {places = rest} here rule ch g) fits q h =
      let mv = by_pass c next path frames fits in
      places_behind (At c (next + 1) path frames) rest g mv.0 q (behind_both q (path ++ step_of c next ∷ []) (At c (next + 1) path frames) h mv.1)
  places_behind s places (Taken {chain = c} {next = next} {path = path} {frames = frames} {t = t} {places = rest} here rule ch e g) fits q h =
      let mv = by_act c next path frames fits here rule t ch e in
      each_append (λ (b : Place). Before q b.steps) (unknown_places (path ++ step_of c next ∷ []) 0 rule.lits) rest
      (each_own (λ (z : Path). Before q z) (path ++ step_of c next ∷ []) 0 rule.lits h)
      (places_behind t rest g mv.0 q (behind_both q (path ++ step_of c next ∷ []) t h mv.1))

  -- places that a state stands behind
  abbrev Earlier : State → Meaning → Type 0
  Earlier s m = AllByRecursion (λ (b : Place). Behind b.steps s) m

  earlier_still : (c next : ℕ) (path : Path) (frames : List Frame) (t : State) (m : Meaning) → Earlier (At c next path frames) m → Behind (path ++ step_of c next ∷ []) t → Earlier t m
  earlier_still c next path frames t m h g =
      each_weaker (λ (b : Place). Behind b.steps (At c next path frames)) (λ (b : Place). Behind b.steps t) (λ b l. behind_both b.steps (path ++ step_of c next ∷ []) t l g) m h

  abbrev Leads : Meaning → State → Type 0
  Leads m s = (k : ℕ) × (after holds dump p m policy k s ≡ Some (Ended v))

  -- under these places, and any earlier ones, the walk has the verdict
  pub follows : (s : State) (places : List Place) → GoesTo s places → FitsAt s → (earlier : Meaning) → Earlier s earlier → Leads (earlier ++ places) s
  follows s places Arrived fits earlier h = (0, refl)
  follows s places (Stepped {s = Ended w} {t = t} none e g) fits earlier h = cc
  follows s places (Stepped {s = At c next path frames} {t = t} {places = rest} none e g) fits earlier h =
      let mv = by_step c next path frames fits [] t e in
      one_more holds dump p (earlier ++ rest) policy (At c next path frames) t (Some (Ended v)) (plain_step holds dump p policy c next path frames t [] (earlier ++ rest) none e)
      (follows t rest g mv.0 earlier (earlier_still c next path frames t earlier h mv.1))
  follows s places (Passed {chain = c} {next = next} {path = path} {frames = frames} {places = rest} here rule ch g) fits earlier h =
      let mv = by_pass c next path frames fits in
      let q : Path = path ++ step_of c next ∷ [] in
      let behind = places_behind (At c (next + 1) path frames) rest g mv.0 q mv.1 in
      let misses : matches holds p (earlier ++ rest) q rule ≡ false =
      passed_over holds p (earlier ++ rest) q 0 rule.lits (λ i. absent_both q i earlier rest h behind) ch.doubtful in
      one_more holds dump p (earlier ++ rest) policy (At c next path frames) (At c (next + 1) path frames) (Some (Ended v))
      (over_step holds dump p policy c next path frames (earlier ++ rest) here rule ch misses)
      (follows (At c (next + 1) path frames) rest g mv.0 earlier (earlier_still c next path frames (At c (next + 1) path frames) earlier h mv.1))
  follows s places (Taken {chain = c} {next = next} {path = path} {frames = frames} {t = t} {places = rest} here rule ch e g) fits earlier h =
      let mv = by_act c next path frames fits here rule t ch e in
      let q : Path = path ++ step_of c next ∷ [] in
      let own : Meaning = unknown_places q 0 rule.lits in
      let hits : matches holds p (earlier ++ (own ++ rest)) q rule ≡ true =
      taken holds p (earlier ++ (own ++ rest)) q 0 rule.lits (λ i x. in_middle earlier own rest q i x) (sym (known_is holds p rule) ∙ ch.known) in
      let ahead = follows t rest g mv.0 (earlier ++ own)
      (each_append (λ (b : Place). Behind b.steps t) earlier own (earlier_still c next path frames t earlier h mv.1) (each_own (λ (z : Path). Behind z t) q 0 rule.lits mv.1)) in
      one_more holds dump p (earlier ++ (own ++ rest)) policy (At c next path frames) t (Some (Ended v))
      (through_step holds dump p policy c next path frames (earlier ++ (own ++ rest)) here rule ch hits ∙ e)
      (subst (λ (m : Meaning). Leads m t) (append_assoc earlier own rest) ahead)

  by_turn : (c next : ℕ) (path : Path) (frames : List Frame) (t : State) → Turn holds dump p policy c next path frames t → (places : List Place) × GoesTo t places →
      (places : List Place) × GoesTo (At c next path frames) places
  by_turn c next path frames t (Plain none f) rest = (rest.0, Stepped none (f []) rest.1)
  by_turn c next path frames t (PassesOver here rule ch e) rest = (rest.0, Passed here rule ch (subst (λ (z : State). GoesTo z rest.0) e rest.1))
  by_turn c next path frames t (GoesThrough here rule ch e) rest = (unknown_places (path ++ step_of c next ∷ []) 0 rule.lits ++ rest.0, Taken here rule ch e rest.1)

  -- a walk to the verdict under some meaning is one with choices
  pub goes : (m : Meaning) (k : ℕ) (s : State) → after holds dump p m policy k s ≡ Some (Ended v) → (places : List Place) × GoesTo s places
  goes m zero s e = let same : Ended v ≡ s = cc in ([], subst (λ (z : State). GoesTo z []) same Arrived)
  goes m (suc k) (Ended w) e = cc
  goes m (suc k) (At c next path frames) e = option_and_then_some (after holds dump p m policy k) (step holds dump p m policy (At c next path frames)) (Ended v) e (λ t is h.
      by_turn c next path frames t (turn holds dump p policy c next path frames t m is) (goes m k t h))

  -- the chosen walk is one of them
  pub freely : (s : State) (places : List Place) → ExplainsFrom holds dump p policy v s places → GoesTo s places
  freely s places Arrives = Arrived
  freely s places (Steps {t = t} {places = rest} none e g) = Stepped none e (freely t rest g)
  freely s places (SkipsRule {chain = c} {next = next} {path = path} {frames = frames} {places = rest} here rule ch can g) =
      Passed here rule ch (freely (At c (next + 1) path frames) rest g)
  freely s places (TakesRule {t = t} {places = rest} here rule ch never e g) = Taken here rule ch e (freely t rest g)
