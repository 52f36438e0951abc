-- Hiding keeps the walks of a dump among those of the hidden one.
use Rattle.std.specs.Prelude.{ℕ, zero, suc, ◌+◌, ◌<◌, ◌≡◌, Bool, true, false, if◌then◌else◌, List, [], ◌∷◌, ◌++◌, Option, None, Some, slice_get, unwrap_or, refl}
use Rattle.std.proofs.Common.{subst, sym, ap, ◌∙◌, arith, zero-add, add-zero}
use Rattle.std.specs.List.{list_any, filter}
use Rattle.std.specs.Option.{option_and_then, option_map}
use Rattle.std.proofs.lemmas.List.Folds.{list_any-append}
use Rattle.std.proofs.lemmas.Map.Views.{any-filter_same}
use Rattle.std.proofs.lemmas.Option.{option_and_then_some}
use Rattle.basics.proofs.Truths.{or_left, or_right, and_true}
use Rattle.match_expr.specs.declared.expr.Expr.{Expr}
use Rattle.fw_rule.specs.declared.rule.Verdict.{Verdict}
use Rattle.fw_rule.specs.declared.rule.Verdict.TheVariants.{Accept}
use Rattle.fw_rule.specs.declared.rule.Lit.{Lit}
use Rattle.fw_rule.specs.declared.rule.Rule.{Rule}
use Rattle.fw_rule.specs.declared.rule.Dump.{Dump}
use Rattle.fw_rule.specs.declared.rule.Place.{Place}
use Rattle.fw_rule.specs.declared.rule.Step.{Step}
use Rattle.fw_rule.specs.Walk.{Path, Meaning, State, At, Ended, Frame, same_place, known_holds, literal_holds, policy_of, step, after, Walks, Settled, mapped_rule, hidden_literal, hidden_by}
use Rattle.fw_rule.proofs.WalkLaws.{one_verdict}
use Rattle.fw_laws.specs.Shape.{rule_at}
use Rattle.fw_laws.specs.Hidden.{NothingHidden, VerdictsStay, MayWidens, MustNarrows}
use Rattle.fw_laws.proofs.Alike.{same_after}
use Rattle.fw_laws.proofs.Deciding.{verdict_of}
use Rattle.fw_laws.proofs.Literals.{match_alike}
use Rattle.fw_laws.proofs.Mapping.{same_stays, shape_stays, policies_stay, rule_at-mapped}
use Rattle.fw_laws.proofs.SamePlace.{place_from_same, same_itself}

-- the last step of a path
abbrev last_or : Step → Path → Step
last_or d [] = d
last_or d (s ∷ path) = last_or s path

last-append : (d : Step) (path : Path) (s : Step) → last_or d (path ++ s ∷ []) ≡ s
last-append d [] s = refl
last-append d (t ∷ path) s = last-append t path s

-- the places of a rule's literals, the first of them with the number `l`
abbrev places_from : {P : Type 0} → Path → ℕ → List (Lit P) → List Place
places_from path l [] = []
places_from path l (lit ∷ lits) = record { steps = path; lit = l } ∷ places_from path (l + 1) lits

finds_place : {P : Type 0} (path : Path) (l : ℕ) (lits : List (Lit P)) (i : ℕ) (lit : Lit P) → slice_get lits i ≡ Some lit →
    list_any (same_place (record { steps = path; lit = l + i })) (places_from path l lits) ≡ true
finds_place path l [] i lit e = cc
finds_place path l (x ∷ lits) zero lit e =
    let at : Place = record { steps = path; lit = l } in
    subst (λ (n : ℕ). list_any (same_place (record { steps = path; lit = n })) (places_from path l (x ∷ lits)) ≡ true) (sym (add-zero l))
    (or_left (same_place at at) (list_any (same_place at) (places_from path (l + 1) lits)) (same_itself at))
finds_place path l (x ∷ lits) (suc i) lit e =
    let shift : l + 1 + i ≡ l + suc i = omega arith in
    or_right (same_place (record { steps = path; lit = l + suc i }) (record { steps = path; lit = l })) (list_any (same_place (record { steps = path; lit = l + suc i })) (places_from path (l + 1) lits))
    (subst (λ (n : ℕ). list_any (same_place (record { steps = path; lit = n })) (places_from path (l + 1) lits) ≡ true) shift (finds_place path (l + 1) lits i lit e))

module _ {P Packet : Type 0} (holds : P → Packet → Bool) (dump : Dump P) (p : Packet) (m : Meaning) (policy : Option Verdict) where
  -- whether the literal of a place holds, if there is one
  abbrev truth_of : Place → Option (Rule P) → Bool
  truth_of place rule = unwrap_or (option_map (literal_holds holds p m place) (option_and_then (λ (x : Rule P). slice_get x.lits place.lit) rule)) false

  abbrev last_step : Place → Step
  last_step place = last_or (record { chain = 0; rule = 0 }) place.steps

  abbrev truth_at : Place → Bool
  truth_at place = truth_of place (rule_at dump (last_step place).chain (last_step place).rule)

  truth_there : (path : Path) (c n i : ℕ) (rule : Rule P) (lit : Lit P) → rule_at dump c n ≡ Some rule → slice_get rule.lits i ≡ Some lit →
      truth_at (record { steps = path ++ record { chain = c; rule = n } ∷ []; lit = i }) ≡ literal_holds holds p m (record { steps = path ++ record { chain = c; rule = n } ∷ []; lit = i }) lit
  truth_there path c n i rule lit e q =
      let place : Place = record { steps = path ++ record { chain = c; rule = n } ∷ []; lit = i } in
      ap (λ (s : Step). truth_of place (rule_at dump s.chain s.rule)) (last-append (record { chain = 0; rule = 0 }) path (record { chain = c; rule = n }))
      ∙ ap (truth_of place) e ∙ ap (λ (o : Option (Lit P)). unwrap_or (option_map (literal_holds holds p m place) o) false) q

  -- the places that a walk comes to in so many steps
  abbrev places_of : Path → Option (Rule P) → List Place
  places_of path None = []
  places_of path (Some rule) = places_from path 0 rule.lits

  abbrev places_at : State → List Place
  places_at (At c n path frames) = places_of (path ++ record { chain = c; rule = n } ∷ []) (rule_at dump c n)
  places_at (Ended v) = []

  abbrev places_then : (State → List Place) → Option State → List Place
  places_then more None = []
  places_then more (Some s) = more s

  abbrev places_in : ℕ → State → List Place
  places_in zero s = []
  places_in (suc k) s = places_at s ++ places_then (places_in k) (step holds dump p m policy s)

  finds_visit : (c n i : ℕ) (path : Path) (frames : List Frame) (rule : Rule P) (lit : Lit P) → rule_at dump c n ≡ Some rule → slice_get rule.lits i ≡ Some lit →
      (j k : ℕ) (s : State) → j < k → after holds dump p m policy j s ≡ Some (At c n path frames) →
      list_any (same_place (record { steps = path ++ record { chain = c; rule = n } ∷ []; lit = i })) (places_in k s) ≡ true
  finds_visit c n i path frames rule lit e q j zero s l h = absurd (omega arith)
  finds_visit c n i path frames rule lit e q zero (suc k) s l h =
      let place : Place = record { steps = path ++ record { chain = c; rule = n } ∷ []; lit = i } in
      let at : At c n path frames ≡ s = cc in
      let found : list_any (same_place place) (places_at (At c n path frames)) ≡ true =
      ap (λ (o : Option (Rule P)). list_any (same_place place) (places_of place.steps o)) e
      ∙ subst (λ (x : ℕ). list_any (same_place (record { steps = place.steps; lit = x })) (places_from place.steps 0 rule.lits) ≡ true) (zero-add i) (finds_place place.steps 0 rule.lits i lit q) in
      list_any-append (same_place place) (places_at s) (places_then (places_in k) (step holds dump p m policy s))
      ∙ or_left (list_any (same_place place) (places_at s)) (list_any (same_place place) (places_then (places_in k) (step holds dump p m policy s)))
      (subst (λ (z : State). list_any (same_place place) (places_at z) ≡ true) at found)
  finds_visit c n i path frames rule lit e q (suc j) (suc k) s l h =
      let place : Place = record { steps = path ++ record { chain = c; rule = n } ∷ []; lit = i } in
      option_and_then_some (after holds dump p m policy j) (step holds dump p m policy s) (At c n path frames) h (λ x is g.
      list_any-append (same_place place) (places_at s) (places_then (places_in k) (step holds dump p m policy s))
      ∙ or_right (list_any (same_place place) (places_at s)) (list_any (same_place place) (places_then (places_in k) (step holds dump p m policy s)))
      (subst (λ (o : Option State). list_any (same_place place) (places_then (places_in k) o) ≡ true) (sym is) (finds_visit c n i path frames rule lit e q j k x (omega arith) g)))

  -- the places of so many steps whose literals hold, known or unknown
  abbrev pub true_places : ℕ → State → Meaning
  true_places k s = filter truth_at (places_in k s)

  -- there the meaning of true places says of each literal whether it holds
  pub true_there : (c n i : ℕ) (path : Path) (frames : List Frame) (rule : Rule P) (lit : Lit P) → rule_at dump c n ≡ Some rule → slice_get rule.lits i ≡ Some lit →
      (j k : ℕ) (s : State) → j < k → after holds dump p m policy j s ≡ Some (At c n path frames) →
      literal_holds holds p m (record { steps = path ++ record { chain = c; rule = n } ∷ []; lit = i }) lit ≡ list_any (same_place (record { steps = path ++ record { chain = c; rule = n } ∷ []; lit = i })) (true_places k s)
  true_there c n i path frames rule lit e q j k s l h =
      let place : Place = record { steps = path ++ record { chain = c; rule = n } ∷ []; lit = i } in
      let kept = any-filter_same (same_place place) truth_at (truth_at place) (λ x t. ap truth_at (sym (place_from_same place x t))) (places_in k s) in
      let found = finds_visit c n i path frames rule lit e q j k s l h in
      sym (kept ∙ and_true (truth_at place) (list_any (same_place place) (places_in k s)) found ∙ truth_there path c n i rule lit e q)

module _ {P Packet : Type 0} (holds : P → Packet → Bool) (p : Packet) (m w : Meaning) (hides : Expr P → Bool) where
  by_test : (place : Place) (neg : Bool) (expr : Expr P) (b : Bool) → known_holds holds p neg expr ≡ list_any (same_place place) w →
      known_holds holds p neg expr ≡ literal_holds holds p w place (if b then Lit.Unknown [] else Lit.Known neg expr)
  by_test place neg expr true e = e
  by_test place neg expr false e = refl

  -- a literal that the second meaning knows by its place is hidden without harm
  hides_alike : (place : Place) (lit : Lit P) → literal_holds holds p m place lit ≡ list_any (same_place place) w → literal_holds holds p m place lit ≡ literal_holds holds p w place (hidden_literal hides lit)
  hides_alike place (Lit.Known neg expr) e = by_test place neg expr (hides expr) e
  hides_alike place (Lit.Unknown text) e = e

module _ {P : Type 0} (dump : Dump P) where
  module _ {Packet : Type 0} (holds : P → Packet → Bool) (chain : ℕ) (p : Packet) where
    -- the walk under a meaning, and that of the hidden dump under its true places, have the same states for so many steps
    pub same_until : (hides : Expr P → Bool) (m : Meaning) (policy : Option Verdict) (k : ℕ) → after holds dump p m policy k (At chain 0 [] [])
        ≡ after holds (hidden_by hides dump) p (true_places holds dump p m policy k (At chain 0 [] [])) policy k (At chain 0 [] [])
    same_until hides m policy k =
        let w = true_places holds dump p m policy k (At chain 0 [] []) in
        same_after holds dump (hidden_by hides dump) p p m w policy (shape_stays dump (hidden_literal hides)) k (At chain 0 [] []) (λ j c n path frames l e a b at_a at_b.
        let is : b ≡ mapped_rule (hidden_literal hides) a = let q = rule_at-mapped (hidden_literal hides) dump c n in let r = ap (option_map (mapped_rule (hidden_literal hides))) at_a in cc in
        match_alike holds p p m w (path ++ record { chain = c; rule = n } ∷ []) (hidden_literal hides) a b (ap (λ (x : Rule P). x.lits) is)
        (λ i lit q. hides_alike holds p m w hides (record { steps = path ++ record { chain = c; rule = n } ∷ []; lit = i }) lit
        (true_there holds dump p m policy c n i path frames a lit at_a q j k (At chain 0 [] []) l e)))

    pub verdicts_stay : VerdictsStay dump holds chain p
    verdicts_stay hides m v h =
        let w = true_places holds dump p m (policy_of dump chain) h.0 (At chain 0 [] []) in (
          w,
          (
            h.0,
            subst (λ (policy : Option Verdict). after holds (hidden_by hides dump) p w policy h.0 (At chain 0 [] []) ≡ Some (Ended v)) (sym (policies_stay dump (hidden_literal hides) chain))
                (sym (same_until hides m (policy_of dump chain) h.0) ∙ h.1),
          ),
        )

    pub may_widens : MayWidens dump holds chain p
    may_widens hides h = verdicts_stay hides h.0 Accept h.1

    pub must_narrows : Settled dump chain → MustNarrows dump holds chain p
    must_narrows s hides must m =
        let h = verdict_of holds dump chain p s m in
        let g = verdicts_stay hides m h.0 h.1 in
        let e : h.0 ≡ Accept = one_verdict holds (hidden_by hides dump) p g.0 chain h.0 Accept g.1 (must g.0) in
        subst (λ (v : Verdict). Walks holds dump p m chain v) e h.1

-- nothing is hidden
kept_literal : {P : Type 0} (hides : Expr P → Bool) → ((expr : Expr P) → hides expr ≡ false) → (lit : Lit P) → hidden_literal hides lit ≡ lit
kept_literal hides none (Lit.Known neg expr) = rw (none expr) refl
kept_literal hides none (Lit.Unknown text) = refl

pub nothing_hidden : {P : Type 0} (dump : Dump P) → NothingHidden dump
nothing_hidden dump hides none = same_stays dump (hidden_literal hides) (kept_literal hides none)
