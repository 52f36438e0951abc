-- Walks over rules that all do the same. The walk has this policy.
use Rattle.std.proofs.Common.{◌≡◌, ℕ, zero, suc, ◌+◌, List, [], ◌∷◌, ◌++◌, Bool, true, false, ◌||◌, Option, Some, refl, ◌∙◌, ap, arith}
use Rattle.std.specs.Prelude.{slice_get, if◌then◌else◌}
use Rattle.std.specs.List.{AllByRecursion, list_any}
use Rattle.std.proofs.lemmas.Option.{option_and_then_some}
use Rattle.primitives.specs.declared.prim.Packet.{Packet}
use Rattle.primitives.specs.declared.prim.Prim_.{Prim_}
use Rattle.primitives.specs.Holds.{holds_of}
use Rattle.fw_rule.specs.declared.rule.Verdict.{Verdict}
use Rattle.fw_rule.specs.declared.rule.Action.{Action}
use Rattle.fw_rule.specs.declared.rule.Rule.{Rule}
use Rattle.fw_rule.specs.declared.rule.Chain.{Chain}
use Rattle.fw_rule.specs.declared.rule.Dump.{Dump}
use Rattle.fw_rule.specs.Walk.{Frame, Path, Meaning, State, At, act, step, step_at, after, doubt_in}
use Rattle.printed_filter.specs.PrintedDump.{Said, placed_from}
use Rattle.printed_filter.proofs.Facts.{facts, hold_by_facts}

-- the list from this place on
abbrev pub RestAt : {X : Type 0} → List X → ℕ → List X → Type 0
RestAt xs n rest = (i : ℕ) → slice_get xs (n + i) ≡ slice_get rest i

module _ {X : Type 0} (xs : List X) where
  pub rest_whole : RestAt xs 0 xs
  rest_whole i = let e : 0 + i ≡ i = omega arith in ap (slice_get xs) e

  module _ (n : ℕ) (x : X) (rest : List X) (h : RestAt xs n (x ∷ rest)) where
    pub rest_first : slice_get xs n ≡ Some x
    rest_first = let e : n ≡ n + 0 = omega arith in ap (slice_get xs) e ∙ h 0

    pub rest_next : RestAt xs (n + 1) rest
    rest_next i = let e : n + 1 + i ≡ n + suc i = omega arith in ap (slice_get xs) e ∙ h (suc i)

-- what a list of rules does where it is said of each: it has this action, and it has no unknown literal
pub record Does {W : ℕ} (action : Action) (said : Said W) : Type 0 where
  pub does : said.action ≡ action
  pub known : doubt_in said.literals ≡ false

module _ {W : ℕ} (dump : Dump (Prim_ W)) (p : Packet) (m : Meaning) (policy : Option Verdict) where
  -- some steps lead from the one state to the other
  abbrev pub Goes : State → State → Type 0
  Goes s t = (k : ℕ) × (after holds_of dump p m policy k s ≡ Some t)

  pub one_step : (s t u : State) → step holds_of dump p m policy s ≡ Some t → Goes t u → Goes s u
  one_step s t u e h = (suc h.0, rw e h.1)

  many_steps : (j : ℕ) (s t u : State) → after holds_of dump p m policy j s ≡ Some t → Goes t u → Goes s u
  many_steps zero s t u e h = let q : s ≡ t = cc in (h.0, rw q h.1)
  many_steps (suc j) s t u e h =
      option_and_then_some (after holds_of dump p m policy j) (step holds_of dump p m policy s) t e (λ x is g. one_step s x u is (many_steps j x t u g h))

  pub then_goes : (s t u : State) → Goes s t → Goes t u → Goes s u
  then_goes s t u g h = many_steps g.0 s t u g.1 h

  -- whether the rule matches
  abbrev pub hits : Said W → Bool
  hits said = facts (holds_of {W = W}) p said.literals

  -- whether one of the rules matches
  abbrev pub some_hit : List (Said W) → Bool
  some_hit saids = list_any hits saids

  -- what a rule does leads to the state
  abbrev pub Leads : Option State → State → Type 0
  Leads o t = (s : State) × (o ≡ Some s) × Goes s t

  module _ (c : ℕ) (here : Chain (Prim_ W)) (at_c : slice_get dump.chains c ≡ Some here) (path : Path) (frames : List Frame) where
    at_rule : (n : ℕ) (o : Option (Rule (Prim_ W))) → slice_get here.rules n ≡ o →
        step holds_of dump p m policy (At c n path frames) ≡ step_at holds_of dump p m policy c n path frames o
    at_rule n o e = rw (at_c, e) refl

    abbrev acts : ℕ → Action → Option State
    acts n action = act policy c n path frames action

    stepped : (n k : ℕ) (said : Said W) (rest : List (Said W)) → RestAt here.rules n (placed_from k (said ∷ rest)) → doubt_in said.literals ≡ false →
        (b : Bool) → hits said ≡ b →
        step holds_of dump p m policy (At c n path frames) ≡ (if b then acts n said.action else Some (At c (n + 1) path frames))
    stepped n k said rest at known b e =
        at_rule n (Some (record { lits = said.literals; action = said.action; line = k })) (rest_first here.rules n _ (placed_from (k + 1) rest) at)
        ∙ ap (λ (x : Bool). if x then acts n said.action else Some (At c (n + 1) path frames))
        (hold_by_facts (holds_of {W = W}) p m (path ++ record { chain = c; rule = n } ∷ []) 0 said.literals known ∙ e)

    module _ (action : Action) (target : State) where
      by_hit : (n k : ℕ) (said : Said W) (rest : List (Said W)) → RestAt here.rules n (placed_from k (said ∷ rest)) → Does action said →
          (b : Bool) → hits said ≡ b → (b ≡ true → Leads (acts n action) target) → (b ≡ false → Goes (At c (n + 1) path frames) target) →
          Goes (At c n path frames) target
      by_hit n k said rest at does true e hit miss =
          let t = hit refl in
          one_step (At c n path frames) t.0 target (stepped n k said rest at does.known true e ∙ ap (acts n) does.does ∙ t.1) t.2
      by_hit n k said rest at does false e hit miss =
          one_step (At c n path frames) (At c (n + 1) path frames) target (stepped n k said rest at does.known false e) (miss refl)

      -- rules of one action, of which each that matches leads to the target
      pub over_alike : (saids more : List (Said W)) (n k : ℕ) → RestAt here.rules n (placed_from k (saids ++ more)) → AllByRecursion (Does action) saids →
          (some_hit saids ≡ true → (j : ℕ) → Leads (acts j action) target) →
          (some_hit saids ≡ false → (j l : ℕ) → RestAt here.rules j (placed_from l more) → Goes (At c j path frames) target) →
          Goes (At c n path frames) target
      over_alike [] more n k at all hit miss = miss refl n k at
      over_alike (said ∷ saids) more n k at all hit miss =
          by_hit n k said (saids ++ more) at all.0 (hits said) refl
          (λ e. hit (ap (λ b. b || some_hit saids) e) n)
          (λ e. over_alike saids more (n + 1) (k + 1) (rest_next here.rules n _ (placed_from (k + 1) (saids ++ more)) at) all.1
          (λ f. hit (ap (λ b. b || some_hit saids) e ∙ f))
          (λ f. miss (ap (λ b. b || some_hit saids) e ∙ f)))

      -- rules of one action that leads to the next rule
      pub over_passing : (saids more : List (Said W)) (n k : ℕ) → RestAt here.rules n (placed_from k (saids ++ more)) → AllByRecursion (Does action) saids →
          ((j : ℕ) → Leads (acts j action) (At c (j + 1) path frames)) →
          ((j l : ℕ) → RestAt here.rules j (placed_from l more) → Goes (At c j path frames) target) →
          Goes (At c n path frames) target
      over_passing [] more n k at all pass go = go n k at
      over_passing (said ∷ saids) more n k at all pass go =
          let rest = over_passing saids more (n + 1) (k + 1) (rest_next here.rules n _ (placed_from (k + 1) (saids ++ more)) at) all.1 pass go in
          by_hit n k said (saids ++ more) at all.0 (hits said) refl
          (λ e. let t = pass n in (t.0, t.1, then_goes t.0 (At c (n + 1) path frames) target t.2 rest))
          (λ e. rest)
