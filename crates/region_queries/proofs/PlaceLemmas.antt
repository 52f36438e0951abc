-- Meanings of the dump, and those of the probe.
use Rattle.std.specs.Prelude.{ℕ, zero, suc, ◌+◌, ◌-◌, ◌<◌, ◌≤◌, ◌≡◌, ◌⊎◌, ◌==◌, ◌||◌, Bool, true, false, List, [], ◌∷◌, ◌++◌, Option, None, Some, length, map, nat_lt, slice_get, get_or, if◌then◌else◌, refl}
use Rattle.std.proofs.Common.{subst, sym, ap, ap₂, ◌∙◌, arith, inl, inr, true≢false, append_assoc}
use Rattle.std.specs.List.{AllByRecursion, list_any}
use Rattle.std.specs.Option.{option_map, option_and_then}
use Rattle.std.proofs.lemmas.Bool.Decides.{nat_tests}
use Rattle.std.proofs.lemmas.Option.{option_and_then_some, slice_get_within}
use Rattle.fw_rule.specs.declared.rule.Verdict.{Verdict}
use Rattle.fw_rule.specs.declared.rule.Verdict.TheVariants.{Accept, Drop}
use Rattle.fw_rule.specs.declared.rule.Lit.{Lit}
use Rattle.fw_rule.specs.declared.rule.Rule.{Rule}
use Rattle.fw_rule.specs.declared.rule.Chain.{Chain}
use Rattle.fw_rule.specs.declared.rule.Dump.{Dump}
use Rattle.fw_rule.specs.declared.rule.Step.{Step}
use Rattle.fw_rule.specs.declared.rule.Place.{Place}
use Rattle.fw_rule.specs.Walk.{Path, Meaning, State, At, Ended, Frame, act, same_place, step, target_of}
use Rattle.fw_rule.proofs.Ends.{found_at}
use Rattle.fw_laws.specs.Frames.{step_of}
use Rattle.fw_laws.specs.Shape.{rule_at}
use Rattle.fw_laws.proofs.SamePlace.{place_from_same, same_itself}
use Rattle.chain_graph.specs.Paths.{CallsNameChains}
use Rattle.explain.specs.Choices.{Arrives, ExplainsFrom, HasChoice, SkipsRule, Steps, TakesRule, unknown_places}
use Rattle.region_queries.specs.Probe.{entry_of, own_chain, own_place, own_step, probe_of, with_action}
use Rattle.region_queries.specs.Visits.{AtEnd, Called, Plain, VisitsFrom}
use Rattle.region_queries.specs.inner.Living.{Follows, IsVisit}
use Rattle.region_queries.proofs.ProbeLemmas.{copies_stand, length_snoc}
use Rattle.region_queries.proofs.LiftLemmas.{LeadsTo, chain_turned, follows_on, leads_on, lifted, lifted_chain, lifted_on, same_rule, turned_action}
use Rattle.region_queries.proofs.WalkLemmas.{Agree, Beside, Fine, acting, leads_inside, lifted_frame, lifted_state, turn}

bool_same : (a b : Bool) → (a ≡ true → b ≡ true) → (b ≡ true → a ≡ true) → a ≡ b
bool_same true true f g = refl
bool_same true false f g = sym (f refl)
bool_same false true f g = g refl
bool_same false false f g = refl

not_true : (a : Bool) → (a ≡ true → ⊥) → a ≡ false
not_true true f = absurd (f refl)
not_true false f = refl

seam : (before : Path) (v : Step) (vs : Path) (d : ℕ) → get_or (map (λ (s : Step). s.chain) (before ++ v ∷ vs)) (length before) d ≡ v.chain
seam [] v vs d = refl
seam (b ∷ before) v vs d = seam before v vs d

pub all_both : {X : Type 0} (Q : X → Type 0) (xs ys : List X) → AllByRecursion Q xs → AllByRecursion Q ys → AllByRecursion Q (xs ++ ys)
all_both Q [] ys a b = b
all_both Q (x ∷ xs) ys a b = (a.0, all_both Q xs ys a.1 b)

module _ {P : Type 0} (dump : Dump P) (visit : Path) where
  abbrev own : Path → Path
  own path = map (own_step dump visit) path

  pub own_low : (c : ℕ) → c < length dump.chains → own_chain dump visit c ≡ c
  own_low c h = let e : nat_lt c (entry_of dump) ≡ true = grind (arith, nat_tests) in rw e refl

  pub own_copy : (before : Path) (v : Step) (vs : Path) (n : ℕ) → visit ≡ before ++ v ∷ vs → n ≡ length dump.chains + length before → own_chain dump visit n ≡ v.chain
  own_copy before v vs n is e =
      let h : nat_lt n (entry_of dump) ≡ false = grind (arith, nat_tests) in
      let k : n - entry_of dump ≡ length before = omega arith in
      let s = seam before v vs n in
      rw (h, k, is) s

  pub rule_there : (s : Step) (rule : Rule P) → rule_at dump s.chain s.rule ≡ Some rule → s.chain < length dump.chains
  rule_there s rule e = option_and_then_some (λ (here : Chain P). slice_get here.rules s.rule) (slice_get dump.chains s.chain) rule e (λ here is h. slice_get_within dump.chains s.chain here is)

  own_itself : (o : Option ℕ) (path : Path) → Follows dump o path → own path ≡ path
  own_itself o [] f = refl
  own_itself o (s ∷ path) f =
      let c = own_low s.chain (rule_there s f.1 f.2) in
      let rest = own_itself (target_of (f.1).action) path f.3 in
      ap₂ (λ (a : ℕ) (xs : Path). record { chain = a; rule = s.rule } ∷ xs) c rest

  -- the path of the dump, again
  own_lifted : (before vs path : Path) (n : ℕ) (o : Option ℕ) → visit ≡ before ++ vs → n ≡ length dump.chains + length before → Follows dump o vs → Follows dump o path → own (lifted n vs path) ≡ path
  own_lifted before [] path n o is e f g = own_itself o path g
  own_lifted before (v ∷ vs) [] n o is e f g = refl
  own_lifted before (v ∷ vs) (s ∷ path) n o is e f g =
      by (s.rule == v.rule) refl
      (λ there. own_lifted (before ++ v ∷ []) vs path (n + 1) (target_of (f.1).action) (is ∙ sym (append_assoc before (v ∷ []) vs)) (let l = length_snoc before v in omega (arith, e, l)) f.3 there)
    where
      head : own_step dump visit (step_of n s.rule) ≡ s
      head =
          let c : own_chain dump visit n ≡ s.chain = own_copy before v vs n is e ∙ (let q : v.chain ≡ s.chain = cc (f.0, g.0) in q) in
          ap (λ (a : ℕ). record { chain = a; rule = s.rule }) c

      by : (b : Bool) → (s.rule == v.rule) ≡ b → (Follows dump (target_of (f.1).action) path → own (lifted (n + 1) vs path) ≡ path) → own (lifted n (v ∷ vs) (s ∷ path)) ≡ s ∷ path
      by true q on =
          let same = same_rule dump s v g.1 f.1 o g.0 f.0 q g.2 f.2 in
          let there : Follows dump (target_of (f.1).action) path = subst (λ (r : Rule P). Follows dump (target_of r.action) path) same.1 g.3 in
          rw q (ap₂ (λ (a : Step) (xs : Path). a ∷ xs) head (on there))
      by false q on = rw q (ap₂ (λ (a : Step) (xs : Path). a ∷ xs) head (own_itself (target_of (g.1).action) path g.3))

  abbrev pub lifted_place : Place → Place
  lifted_place z = record { steps = lifted (entry_of dump) visit z.steps; lit = z.lit }

  module _ (asked : ℕ) (follows : Follows dump (Some asked) visit) where
    own_place_lifted : (path : Path) (l : ℕ) → Follows dump (Some asked) path → own_place dump visit (lifted_place (record { steps = path; lit = l })) ≡ record { steps = path; lit = l }
    own_place_lifted path l f = ap (λ (x : Path). record { steps = x; lit = l }) (own_lifted [] visit path (entry_of dump) (Some asked) refl (omega arith) follows f)

    -- those of the meaning's places that the probe has, as it has them
    abbrev is_kept : Place → Bool
    is_kept z = same_place (own_place dump visit (lifted_place z)) z

    abbrev pub lifted_meaning : Meaning → Meaning
    lifted_meaning [] = []
    lifted_meaning (z ∷ m) = if is_kept z then lifted_place z ∷ lifted_meaning m else lifted_meaning m

    module _ (path : Path) (l : ℕ) (f : Follows dump (Some asked) path) where
      abbrev place : Place
      place = record { steps = path; lit = l }

      kept_alike : (z : Place) → is_kept z ≡ true → same_place place z ≡ same_place (lifted_place place) (lifted_place z)
      kept_alike z k = bool_same (same_place place z) (same_place (lifted_place place) (lifted_place z))
          (λ h. (let e = place_from_same place z h in subst (λ (x : Place). same_place (lifted_place place) (lifted_place x) ≡ true) e (same_itself (lifted_place place))))
          (λ h. (let e = place_from_same (lifted_place place) (lifted_place z) h in
          let q : place ≡ z = sym (own_place_lifted path l f) ∙ ap (own_place dump visit) e ∙ place_from_same (own_place dump visit (lifted_place z)) z k in
          subst (λ (x : Place). same_place place x ≡ true) q (same_itself place)))

      left_out : (z : Place) → is_kept z ≡ false → same_place place z ≡ false
      left_out z k = not_true (same_place place z) (λ h.
          (let e = place_from_same place z h in
          let q : is_kept place ≡ true = subst (λ (x : Place). same_place x place ≡ true) (sym (own_place_lifted path l f)) (same_itself place) in
          true≢false (sym (subst (λ (x : Place). is_kept x ≡ true) e q) ∙ k)))

      lifted_alike : (m : Meaning) → list_any (same_place place) m ≡ list_any (same_place (lifted_place place)) (lifted_meaning m)
      lifted_alike [] = refl
      lifted_alike (z ∷ m) = by (is_kept z) refl (lifted_alike m)
        where
          by : (b : Bool) → is_kept z ≡ b → list_any (same_place place) m ≡ list_any (same_place (lifted_place place)) (lifted_meaning m) →
              list_any (same_place place) (z ∷ m) ≡ list_any (same_place (lifted_place place)) (lifted_meaning (z ∷ m))
          by true k rest = rw k (ap₂ (λ (a b : Bool). a || b) (kept_alike z k) rest)
          by false k rest = rw (k, left_out z k) rest

    pub lifted_agrees : (m : Meaning) → Agree dump asked visit m (lifted_meaning m)
    lifted_agrees m path f l = lifted_alike path l f m

    -- the place is one that a walk of the probe can come to
    abbrev pub IsAbove : Place → Type 0
    IsAbove z = (path : Path) × Follows dump (Some asked) path × (z.steps ≡ lifted (entry_of dump) visit path)

    one_own : (path : Path) (l : ℕ) → Follows dump (Some asked) path → (z : Place) → IsAbove z →
        same_place (record { steps = path; lit = l }) (own_place dump visit z) ≡ same_place (lifted_place (record { steps = path; lit = l })) z
    one_own path l f z above =
        let x : Place = record { steps = path; lit = l } in
        let y : Place = record { steps = above.0; lit = z.lit } in
        let z_is : z ≡ lifted_place y = ap (λ (q : Path). record { steps = q; lit = z.lit }) above.2 in
        let own_is : own_place dump visit z ≡ y = ap (own_place dump visit) z_is ∙ own_place_lifted above.0 z.lit above.1 in
        bool_same (same_place x (own_place dump visit z)) (same_place (lifted_place x) z)
        (λ h. (let e = place_from_same x (own_place dump visit z) h in
        let q : lifted_place x ≡ z = ap lifted_place (e ∙ own_is) ∙ sym z_is in subst (λ (u : Place). same_place (lifted_place x) u ≡ true) q (same_itself (lifted_place x))))
        (λ h. (let e = place_from_same (lifted_place x) z h in
        let q : x ≡ own_place dump visit z = sym (own_place_lifted path l f) ∙ ap (own_place dump visit) e in subst (λ (u : Place). same_place x u ≡ true) q (same_itself x)))

    own_alike : (path : Path) (l : ℕ) → Follows dump (Some asked) path → (w : Meaning) → AllByRecursion IsAbove w →
        list_any (same_place (record { steps = path; lit = l })) (map (own_place dump visit) w) ≡ list_any (same_place (lifted_place (record { steps = path; lit = l }))) w
    own_alike path l f [] above = refl
    own_alike path l f (z ∷ w) above = ap₂ (λ (a b : Bool). a || b) (one_own path l f z above.0) (own_alike path l f w above.1)

    pub own_agrees : (w : Meaning) → AllByRecursion IsAbove w → Agree dump asked visit (map (own_place dump visit) w) w
    own_agrees w above path f l = own_alike path l f w above

    unknown_above : (path : Path) → Follows dump (Some asked) path → (l : ℕ) (lits : List (Lit P)) → AllByRecursion IsAbove (unknown_places (lifted (entry_of dump) visit path) l lits)
    unknown_above path f l [] = tt
    unknown_above path f l (Lit.Known neg expr ∷ lits) = unknown_above path f (l + 1) lits
    unknown_above path f l (Lit.Unknown text ∷ lits) = ((path, f, refl), unknown_above path f (l + 1) lits)

    module _ (named : CallsNameChains dump) (there : asked < length dump.chains) {Packet : Type 0} (holds : P → Packet → Bool) (p : Packet) where
      abbrev probe : Dump P
      probe = probe_of dump visit

      -- where a step of the probe leads
      abbrev IsLifted : State → Type 0
      IsLifted z = (s : State) × (z ≡ lifted_state dump visit s) × Fine dump asked s

      beside_lifted : (a b : Option State) (z : State) → Beside dump visit asked a b → b ≡ Some z → IsLifted z
      beside_lifted a b z (inl on) e = (on.0, (let q : z ≡ lifted_state dump visit on.0 = cc (e, on.2) in q), on.3)
      beside_lifted a b z (inr stop) e = (Ended Drop, stop.1 z e, tt)

      steps_lifted : (s : State) (z : State) → Fine dump asked s → step holds probe p [] (Some Drop) (lifted_state dump visit s) ≡ Some z → IsLifted z
      steps_lifted (Ended v) z fine e = cc
      steps_lifted (At c next path frames) z fine e =
          elim (turn holds dump p [] [] asked visit None follows named there (λ q f l. refl) c next path frames fine) [
            | inl hit ↦ (Ended Accept, (let q : z ≡ Ended Accept = cc (e, hit.1) in q), tt)
            | inr not ↦ beside_lifted (step holds dump p [] None (At c next path frames)) (step holds probe p [] (Some Drop) (lifted_state dump visit (At c next path frames))) z not.1 e
          ]

      some_rule : {X Y : Type 0} (f : X → Y) (o : Option X) (y : Y) → option_map f o ≡ Some y → (x : X) × (o ≡ Some x) × (f x ≡ y)
      some_rule f None y e = cc
      some_rule f (Some x) y e = (x, refl, (let q : f x ≡ y = cc in q))

      acts_lifted : (c next : ℕ) (path : Path) (frames : List Frame) (here : Chain P) (rule : Rule P) (z : State) → Fine dump asked (At c next path frames) →
          HasChoice holds probe p (lifted_chain (entry_of dump) visit path c) next here rule →
          act (Some Drop) (lifted_chain (entry_of dump) visit path c) next (lifted (entry_of dump) visit path) (map (lifted_frame dump visit) frames) rule.action ≡ Some z →
          Follows dump (Some asked) (path ++ step_of c next ∷ []) × IsLifted z
      acts_lifted c next path frames here rule z fine choice e =
          let at = found_at dump.chains c (leads_inside dump named (Some asked) path c (λ k q. (let r : asked ≡ k = cc in subst (λ (x : ℕ). x < length dump.chains) r there)) fine.0) in
          let other = chain_turned dump visit (entry_of dump) (Some asked) visit path c at.0 (copies_stand dump visit) follows fine.0 at.1 in
          let same : other.0 ≡ here = cc (other.1, choice.at_chain) in
          let turned = with_action (turned_action (entry_of dump) visit path next) in
          let r = some_rule turned (slice_get (at.0).rules next) rule (sym (other.2 next) ∙ ap (λ (x : Chain P). slice_get x.rules next) same ∙ choice.at_rule) in
          let rule_is : rule_at dump c next ≡ Some r.0 = (let q = at.1 in rw q r.1) in
          let acts = ap (λ (x : Rule P). act (Some Drop) (lifted_chain (entry_of dump) visit path c) next (lifted (entry_of dump) visit path) (map (lifted_frame dump visit) frames) x.action) r.2 ∙ e in (
            follows_on dump (Some asked) path c next r.0 fine.0 rule_is,
            elim (acting dump visit asked None c next path frames fine.0 fine.1 r.0 rule_is) [
              | inl hit ↦ (Ended Accept, (let q : z ≡ Ended Accept = cc (acts, hit.1) in q), tt)
              | inr on ↦ beside_lifted (act None c next path frames (r.0).action) (act (Some Drop) (lifted_chain (entry_of dump) visit path c) next (lifted (entry_of dump) visit path) (map (lifted_frame dump visit) frames) (turned r.0).action) z on.1 acts
            ],
          )

      -- the places of the chosen walk are such
      pub places_above : (v : Verdict) (z : State) (places : List Place) → ExplainsFrom holds probe p (Some Drop) v z places → (s : State) → z ≡ lifted_state dump visit s → Fine dump asked s →
          AllByRecursion IsAbove places
      places_above v z places Arrives s e fine = tt
      places_above v z places (Steps {t = t} {places = more} none goes rest) s e fine =
          let l = steps_lifted s t fine (subst (λ (x : State). step holds probe p [] (Some Drop) x ≡ Some t) e goes) in
          places_above v t more rest l.0 l.1 l.2
      places_above v z places (SkipsRule here rule choice can rest) (Ended x) e fine = cc
      places_above v z places (SkipsRule {chain = chain} {next = next} {path = path} {frames = frames} {places = more} here rule choice can rest) (At c n q fs) e fine =
          places_above v (At chain (next + 1) path frames) more rest (At c (n + 1) q fs) (cc) fine
      places_above v z places (TakesRule here rule choice not acts rest) (Ended x) e fine = cc
      places_above v z places (TakesRule {chain = chain} {next = next} {path = path} {frames = frames} {t = t} {places = more} here rule choice not acts rest) (At c n q fs) e fine =
          let chain_is : chain ≡ lifted_chain (entry_of dump) visit q c = cc in
          let next_is : next ≡ n = cc in
          let path_is : path ≡ lifted (entry_of dump) visit q = cc in
          let frames_are : frames ≡ map (lifted_frame dump visit) fs = cc in
          let choice' = subst (λ (x : ℕ). HasChoice holds probe p (lifted_chain (entry_of dump) visit q c) x here rule) next_is (subst (λ (x : ℕ). HasChoice holds probe p x next here rule) chain_is choice) in
          let acts' : act (Some Drop) (lifted_chain (entry_of dump) visit q c) n (lifted (entry_of dump) visit q) (map (lifted_frame dump visit) fs) rule.action ≡ Some t = cc in
          let l = acts_lifted c n q fs here rule t fine choice' acts' in
          let here_are : path ++ step_of chain next ∷ [] ≡ lifted (entry_of dump) visit (q ++ step_of c n ∷ []) = cc (lifted_on (entry_of dump) visit q c n) in
          all_both IsAbove (unknown_places (path ++ step_of chain next ∷ []) 0 rule.lits) more
          (subst (λ (x : Path). AllByRecursion IsAbove (unknown_places x 0 rule.lits)) (sym here_are) (unknown_above (q ++ step_of c n ∷ []) l.0 0 rule.lits))
          (places_above v t more rest (l.1).0 (l.1).1 (l.1).2)

module _ {P : Type 0} (dump : Dump P) (asked : ℕ) where
  some_step : (path : Path) (s : Step) → 1 ≤ length (path ++ s ∷ [])
  some_step path s = let h = length_snoc path s in omega (arith, h)

  -- what is listed is a visit
  pub are_visits : (chain next : ℕ) (path : Path) (visits : List Path) → VisitsFrom dump chain next path visits → LeadsTo dump (Some asked) path chain → AllByRecursion (IsVisit dump asked) visits
  are_visits chain next path visits (AtEnd past) l = tt
  are_visits chain next path visits (Plain {later = later} rule at none rest) l =
      (record { follows = follows_on dump (Some asked) path chain next rule l at; some = some_step path (step_of chain next) }, are_visits chain (next + 1) path later rest l)
  are_visits chain next path visits (Called {inside = inside} {later = later} rule k at to there rest) l = (
    record { follows = follows_on dump (Some asked) path chain next rule l at; some = some_step path (step_of chain next) },
    all_both (IsVisit dump asked) inside later (are_visits k 0 (path ++ step_of chain next ∷ []) inside there (leads_on dump (Some asked) path chain next k rule l at to))
        (are_visits chain (next + 1) path later rest l),
  )
