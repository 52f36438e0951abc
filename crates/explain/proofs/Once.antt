-- The chosen walk is one.
use Rattle.std.specs.Prelude.{ℕ, ◌+◌, ◌≡◌, Bool, List, [], ◌∷◌, ◌++◌, Option, None, Some, refl}
use Rattle.std.proofs.Common.{subst, sym, ap, ◌∙◌}
use Rattle.fw_rule.specs.declared.rule.Verdict.{Verdict}
use Rattle.fw_rule.specs.declared.rule.Rule.{Rule}
use Rattle.fw_rule.specs.declared.rule.Chain.{Chain}
use Rattle.fw_rule.specs.declared.rule.Dump.{Dump}
use Rattle.fw_rule.specs.declared.rule.Place.{Place}
use Rattle.fw_rule.specs.Walk.{Path, State, At, Ended, Frame, act, step}
use Rattle.explain.specs.Choices.{Can, HasChoice, NoChoice, Arrives, Steps, SkipsRule, TakesRule, ExplainsFrom, unknown_places}
use Rattle.fw_laws.specs.Frames.{step_of}
use Rattle.explain.proofs.Turning.{only_rule}

module _ {P Packet : Type 0} (holds : P → Packet → Bool) (dump : Dump P) (p : Packet) (v : Verdict) (policy : Option Verdict) where
  abbrev Ex : State → List Place → Type 0
  Ex = ExplainsFrom holds dump p policy v

  -- a verdict has no places
  at_verdict : (s : State) (b : List Place) → Ex s b → s ≡ Ended v → [] ≡ b
  at_verdict s b Arrives e = refl
  at_verdict s b (Steps {t = t} none e g) q = let o : None ≡ Some t = subst (λ (z : State). step holds dump p [] policy z ≡ Some t) q e in cc
  at_verdict s b (SkipsRule here rule ch x g) q = cc
  at_verdict s b (TakesRule here rule ch x e g) q = cc

  -- the same step
  by_step : (s t : State) (b : List Place) → NoChoice holds dump p s → step holds dump p [] policy s ≡ Some t → Ex s b → Ex t b
  by_step s t b none e Arrives = cc
  by_step s t b none e (Steps {t = u} other f g) = let same : u ≡ t = cc (e, f) in subst (λ (z : State). Ex z b) same g
  by_step s t b none e (SkipsRule here rule ch x g) = absurd (none here rule ch)
  by_step s t b none e (TakesRule here rule ch x f g) = absurd (none here rule ch)

  module _ (c next : ℕ) (path : Path) (frames : List Frame) (here : Chain P) (rule : Rule P) (ch : HasChoice holds dump p c next here rule) where
    -- the same rule passed over
    by_pass : (b : List Place) → Can holds dump p policy (At c (next + 1) path frames) v → Ex (At c next path frames) b → Ex (At c (next + 1) path frames) b
    by_pass b can (Steps none e g) = absurd (none here rule ch)
    by_pass b can (SkipsRule h r other x g) = g
    by_pass b can (TakesRule h r other never e g) = absurd (never can)

    -- the same rule taken
    by_take : (t : State) (b : List Place) → ¬ Can holds dump p policy (At c (next + 1) path frames) v → act policy c next path frames rule.action ≡ Some t → Ex (At c next path frames) b →
        (rest : List Place) × Ex t rest × (b ≡ unknown_places (path ++ step_of c next ∷ []) 0 rule.lits ++ rest)
    by_take t b never e (Steps none f g) = absurd (none here rule ch)
    by_take t b never e (SkipsRule h r other can g) = absurd (never can)
    by_take t b never e (TakesRule {t = u} {places = rest} h r other x f g) =
        let rules : r ≡ rule = only_rule holds dump p policy c next path frames here h rule r ch.at_chain ch.at_rule other in
        let goes : act policy c next path frames rule.action ≡ Some u = subst (λ (z : Rule P). act policy c next path frames z.action ≡ Some u) rules f in
        let same : u ≡ t = cc (goes, e) in
        (rest, subst (λ (z : State). Ex z rest) same g, ap (λ (z : Rule P). unknown_places (path ++ step_of c next ∷ []) 0 z.lits ++ rest) rules)

  pub explained_once : (s : State) (a b : List Place) → Ex s a → Ex s b → a ≡ b
  explained_once s a b Arrives g = at_verdict s b g refl
  explained_once s a b (Steps {t = t} none e f) g = explained_once t a b f (by_step s t b none e g)
  explained_once s a b (SkipsRule {chain = c} {next = next} {path = path} {frames = frames} here rule ch can f) g =
      explained_once (At c (next + 1) path frames) a b f (by_pass c next path frames here rule ch b can g)
  explained_once s a b (TakesRule {chain = c} {next = next} {path = path} {frames = frames} {t = t} {places = rest} here rule ch never e f) g =
      let other = by_take c next path frames here rule ch t b never e g in
      ap (λ (z : List Place). unknown_places (path ++ step_of c next ∷ []) 0 rule.lits ++ z) (explained_once t rest other.0 f other.1) ∙ sym other.2
