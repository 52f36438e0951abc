-- The walk of the probe beside that of the dump.
use Rattle.std.specs.Prelude.{ℕ, zero, suc, ◌+◌, ◌<◌, ◌≡◌, ◌⊎◌, ◌&&◌, Bool, true, false, List, [], ◌∷◌, ◌++◌, Option, None, Some, length, map, slice_get, if◌then◌else◌, refl}
use Rattle.std.proofs.Common.{subst, sym, ap, ap₂, ◌∙◌, arith, inl, inr, true≢false}
use Rattle.std.specs.List.{list_any}
use Rattle.std.specs.Option.{option_map, option_and_then}
use Rattle.std.proofs.lemmas.Option.{option_and_then_some}
use Rattle.fw_rule.specs.declared.rule.Verdict.{Verdict}
use Rattle.fw_rule.specs.declared.rule.Verdict.TheVariants.{Accept, Drop}
use Rattle.fw_rule.specs.declared.rule.Action.{Action}
use Rattle.fw_rule.specs.declared.rule.Lit.{Lit}
use Rattle.fw_rule.specs.declared.rule.Rule.{Rule}
use Rattle.fw_rule.specs.declared.rule.Chain.{Chain}
use Rattle.fw_rule.specs.declared.rule.Dump.{Dump}
use Rattle.fw_rule.specs.declared.rule.Step.{Step}
use Rattle.fw_rule.specs.Walk.{Path, Meaning, State, At, Ended, Frame, Calls, same_place, literal_holds, literals_hold, matches, target_of, act, back, step, after}
use Rattle.fw_rule.proofs.Ends.{at_rule, matched, found_at, one_more}
use Rattle.fw_laws.specs.Frames.{step_of}
use Rattle.fw_laws.specs.Shape.{rule_at}
use Rattle.fw_laws.proofs.Asked.{rule_of_at}
use Rattle.chain_graph.specs.Paths.{CallsNameChains}
use Rattle.region_queries.specs.Probe.{barred, entry_of, probe_of, with_action}
use Rattle.region_queries.specs.inner.Living.{Follows}
use Rattle.region_queries.proofs.ProbeLemmas.{copies_stand}
use Rattle.region_queries.proofs.LiftLemmas.{IsTurned, LeadsTo, chain_turned, ends, ends_is, follows_on, is_end, leads_on, lifted, lifted_chain, lifted_on, moved, turned_action, turned_is}

module _ {P : Type 0} (dump : Dump P) where
  -- each chain that is led to is there
  pub leads_inside : CallsNameChains dump → (o : Option ℕ) (path : Path) (c : ℕ) → ((k : ℕ) → o ≡ Some k → k < length dump.chains) → LeadsTo dump o path c → c < length dump.chains
  leads_inside named o [] c there l = there c l
  leads_inside named o (s ∷ path) c there l =
      leads_inside named (target_of (l.1).action) path c (λ k e. named s.chain k (l.1, rule_of_at dump 0 s.chain s.rule l.1 l.2, e)) l.3

  module _ (asked : ℕ) where
    abbrev pub EachLeads : List Frame → Type 0
    EachLeads [] = Unit {0}
    EachLeads (f ∷ frames) = LeadsTo dump (Some asked) f.path f.chain × EachLeads frames

    -- the calls and gotos before the state lead to where it stands, and those of each frame to where it goes on
    abbrev pub Fine : State → Type 0
    Fine (At c next path frames) = LeadsTo dump (Some asked) path c × EachLeads frames
    Fine (Ended v) = Unit {0}

  module _ (visit : Path) where
    abbrev pub lifted_frame : Frame → Frame
    lifted_frame f = record { chain = lifted_chain (entry_of dump) visit f.path f.chain; next = f.next; path = lifted (entry_of dump) visit f.path }

    -- the state of the probe's walk
    abbrev pub lifted_state : State → State
    lifted_state (At c next path frames) = At (lifted_chain (entry_of dump) visit path c) next (lifted (entry_of dump) visit path) (map lifted_frame frames)
    lifted_state (Ended v) = Ended v

    -- the walk stands somewhere
    abbrev pub Stands : State → Type 0
    Stands (At c next path frames) = Unit {0}
    Stands (Ended v) = ⊥

    module _ (asked : ℕ) where
      -- both walks go on, or both end, that of the probe with Drop
      abbrev pub Beside : Option State → Option State → Type 0
      Beside a b = ((t : State) × (a ≡ Some t) × (b ≡ Some (lifted_state t)) × Fine asked t × Stands t)
          ⊎ (((c next : ℕ) (path : Path) (frames : List Frame) → a ≡ Some (At c next path frames) → ⊥) × ((t : State) → b ≡ Some t → t ≡ Ended Drop))

      pub beside_by : (a a' b b' : Option State) → a ≡ a' → b ≡ b' → Beside a' b' → Beside a b
      beside_by a a' b b' e f h = subst (λ (x : Option State). Beside x b) (sym e) (subst (λ (y : Option State). Beside a' y) (sym f) h)

      both_back : (policy : Option Verdict) (frames : List Frame) → EachLeads asked frames → Beside (back policy frames) (back (Some Drop) (map lifted_frame frames))
      both_back policy (f ∷ frames) h = inl (At f.chain f.next f.path frames, refl, refl, h, tt)
      both_back (Some v) [] h = inr ((λ c next path frames e. cc), (λ t e. cc))
      both_back None [] h = inr ((λ c next path frames e. cc), (λ t e. cc))

      -- a rule that matches, and doesn't end the visit
      module _ (policy : Option Verdict) (c next : ℕ) (path : Path) (frames : List Frame) (leads : LeadsTo dump (Some asked) path c) (each : EachLeads asked frames) where
        abbrev below : Path
        below = path ++ step_of c next ∷ []

        abbrev probe_acts : Action → Option State
        probe_acts action = act (Some Drop) (lifted_chain (entry_of dump) visit path c) next (lifted (entry_of dump) visit path) (map lifted_frame frames) action

        longer : lifted (entry_of dump) visit path ++ step_of (lifted_chain (entry_of dump) visit path c) next ∷ [] ≡ lifted (entry_of dump) visit below
        longer = sym (lifted_on (entry_of dump) visit path c next)

        both_act : (rule : Rule P) → rule_at dump c next ≡ Some rule → (action : Action) → rule.action ≡ action →
            Beside (act policy c next path frames action) (probe_acts (moved (lifted_chain (entry_of dump) visit below) action))
        both_act rule at Action.Accept a = inr ((λ c next path frames e. cc), (λ t e. cc))
        both_act rule at Action.Drop a = inr ((λ c next path frames e. cc), (λ t e. cc))
        both_act rule at Action.Pass a = inl (At c (next + 1) path frames, refl, refl, (leads, each), tt)
        both_act rule at Action.Back a = both_back policy frames each
        both_act rule at (Action.Call k) a =
            inl (
              At k 0 below (record { chain = c; next = next + 1; path = path } ∷ frames),
              refl,
              ap (λ (x : Path). Some (At (lifted_chain (entry_of dump) visit below k) 0 x (lifted_frame (record { chain = c; next = next + 1; path = path }) ∷ map lifted_frame frames))) longer,
              (leads_on dump (Some asked) path c next k rule leads at (ap target_of a), (leads, each)),
              tt,
            )
        both_act rule at (Action.Goto k) a =
            inl (
              At k 0 below frames,
              refl,
              ap (λ (x : Path). Some (At (lifted_chain (entry_of dump) visit below k) 0 x (map lifted_frame frames))) longer,
              (leads_on dump (Some asked) path c next k rule leads at (ap target_of a), each),
              tt,
            )
        both_act rule at (Action.Other name) a = inr ((λ c next path frames e. cc), (λ t e. cc))

        pub acting : (rule : Rule P) → rule_at dump c next ≡ Some rule →
            ((ends visit path next ≡ true) × (probe_acts (turned_action (entry_of dump) visit path next rule.action) ≡ Some (Ended Accept)))
            ⊎ ((ends visit path next ≡ false) × Beside (act policy c next path frames rule.action) (probe_acts (turned_action (entry_of dump) visit path next rule.action)))
        acting rule at = elim (turned_is (entry_of dump) visit path next) [
          | inl h ↦ inl (h.0, ap probe_acts (h.1 rule.action))
          | inr h ↦ inr (
            h.0,
            beside_by (act policy c next path frames rule.action) (act policy c next path frames rule.action) (probe_acts (turned_action (entry_of dump) visit path next rule.action))
                (probe_acts (moved (lifted_chain (entry_of dump) visit below) rule.action)) refl (ap probe_acts (h.1 c rule.action)) (both_act rule at rule.action refl),
          )
        ]

-- A meaning of the dump and one of the probe say the same of each literal that a walk can come to.
abbrev pub Agree : {P : Type 0} → Dump P → ℕ → Path → Meaning → Meaning → Type 0
Agree dump asked visit m w = (path : Path) → Follows dump (Some asked) path → (l : ℕ) →
    list_any (same_place (record { steps = path; lit = l })) m ≡ list_any (same_place (record { steps = lifted (entry_of dump) visit path; lit = l })) w

-- the walk comes to the visit there, and its rule matches
abbrev pub TriggersAt : {P Packet : Type 0} → (P → Packet → Bool) → Dump P → Packet → Meaning → Path → State → Type 0
TriggersAt {P} holds dump p m visit (At c next path frames) = (path ++ step_of c next ∷ [] ≡ visit) × (rule : Rule P) × (rule_at dump c next ≡ Some rule) × (matches holds p m visit rule ≡ true)
TriggersAt holds dump p m visit (Ended v) = ⊥

module _ {P Packet : Type 0} (holds : P → Packet → Bool) (dump : Dump P) (p : Packet) (m w : Meaning) where
  one_alike : (path above : Path) (l : ℕ) (lit : Lit P) → list_any (same_place (record { steps = path; lit = l })) m ≡ list_any (same_place (record { steps = above; lit = l })) w →
      literal_holds holds p m (record { steps = path; lit = l }) lit ≡ literal_holds holds p w (record { steps = above; lit = l }) lit
  one_alike path above l (Lit.Known neg expr) h = refl
  one_alike path above l (Lit.Unknown text) h = h

  all_alike : (path above : Path) → ((l : ℕ) → list_any (same_place (record { steps = path; lit = l })) m ≡ list_any (same_place (record { steps = above; lit = l })) w) →
      (l : ℕ) (lits : List (Lit P)) → literals_hold holds p m path l lits ≡ literals_hold holds p w above l lits
  all_alike path above h l [] = refl
  all_alike path above h l (lit ∷ lits) = ap₂ (λ (a b : Bool). a && b) (one_alike path above l lit (h l)) (all_alike path above h (l + 1) lits)

  module _ (asked : ℕ) (visit : Path) (policy : Option Verdict) (follows : Follows dump (Some asked) visit) (named : CallsNameChains dump) (there : asked < length dump.chains)
      (agree : Agree dump asked visit m w) where
    abbrev steps : State → Option State
    steps = step holds dump p m policy

    abbrev probe_steps : State → Option State
    probe_steps = step holds (probe_of dump visit) p w (Some Drop)

    abbrev pub Turns : State → Type 0
    Turns s = (TriggersAt holds dump p m visit s × (probe_steps (lifted_state dump visit s) ≡ Some (Ended Accept)))
        ⊎ ((TriggersAt holds dump p m visit s → ⊥) × Beside dump visit asked (steps s) (probe_steps (lifted_state dump visit s)))

    module _ (c next : ℕ) (path : Path) (frames : List Frame) (leads : LeadsTo dump (Some asked) path c) (each : EachLeads dump asked frames)
        (here : Chain P) (at_c : slice_get dump.chains c ≡ Some here) (other : IsTurned dump visit (entry_of dump) visit path c here) where
      abbrev chain : ℕ
      chain = lifted_chain (entry_of dump) visit path c

      abbrev above : Path
      above = lifted (entry_of dump) visit path

      abbrev others : List Frame
      others = map (lifted_frame dump visit) frames

      -- the rule of this number, as it is read
      rule_is : (o : Option (Rule P)) → slice_get here.rules next ≡ o → rule_at dump c next ≡ o
      rule_is o e = rw at_c e

      past_rules : slice_get here.rules next ≡ None → Turns (At c next path frames)
      past_rules e = inr (
        (λ t. (let n = rule_is None e in cc (n, t.2))),
        beside_by dump visit asked (steps (At c next path frames)) (back policy frames) (probe_steps (At chain next above others)) (back (Some Drop) others)
            (at_rule holds dump p m policy c here at_c next path frames None e)
            (at_rule holds (probe_of dump visit) p w (Some Drop) chain other.0 other.1 next above others None (other.2 next ∙ ap (option_map (with_action (turned_action (entry_of dump) visit path next))) e))
            (both_back dump visit asked policy frames each),
      )

      module _ (rule : Rule P) (e : slice_get here.rules next ≡ Some rule) where
        abbrev turned_rule : Rule P
        turned_rule = with_action (turned_action (entry_of dump) visit path next) rule

        probe_rule : slice_get (other.0).rules next ≡ Some turned_rule
        probe_rule = other.2 next ∙ ap (option_map (with_action (turned_action (entry_of dump) visit path next))) e

        match_alike : matches holds p m (path ++ step_of c next ∷ []) rule ≡ matches holds p w (above ++ step_of chain next ∷ []) turned_rule
        match_alike =
            all_alike (path ++ step_of c next ∷ []) (lifted (entry_of dump) visit (path ++ step_of c next ∷ []))
            (agree (path ++ step_of c next ∷ []) (follows_on dump (Some asked) path c next rule leads (rule_is (Some rule) e))) 0 rule.lits
            ∙ ap (λ (x : Path). literals_hold holds p w x 0 rule.lits) (lifted_on (entry_of dump) visit path c next)

        -- where it doesn't match
        passed_by : matches holds p m (path ++ step_of c next ∷ []) rule ≡ false → Turns (At c next path frames)
        passed_by b = inr (
          (λ t. (let r : t.1 ≡ rule = (let q = rule_is (Some rule) e in cc (q, t.2)) in
              let h : matches holds p m (path ++ step_of c next ∷ []) rule ≡ true = ap₂ (λ (x : Path) (y : Rule P). matches holds p m x y) t.0 (sym r) ∙ t.3 in
              true≢false (sym h ∙ b))),
          inl (
            At c (next + 1) path frames,
            matched holds dump p m policy c here at_c next path frames rule false e b,
            matched holds (probe_of dump visit) p w (Some Drop) chain other.0 other.1 next above others turned_rule false probe_rule (sym match_alike ∙ b),
            (leads, each),
            tt,
          ),
        )

        taken : matches holds p m (path ++ step_of c next ∷ []) rule ≡ true → Turns (At c next path frames)
        taken b =
            let goes = matched holds dump p m policy c here at_c next path frames rule true e b in
            let probe_goes = matched holds (probe_of dump visit) p w (Some Drop) chain other.0 other.1 next above others turned_rule true probe_rule (sym match_alike ∙ b) in
            elim (acting dump visit asked policy c next path frames leads each rule (rule_is (Some rule) e)) [
              | inl h ↦
                  let is = ends_is dump (Some asked) visit path c next follows leads h.0 in
                  inl ((is, rule, rule_is (Some rule) e, ap (λ (x : Path). matches holds p m x rule) (sym is) ∙ b), probe_goes ∙ h.1)
              | inr h ↦ inr (
                (λ t. true≢false (sym (is_end dump visit path c next t.0) ∙ h.0)),
                beside_by dump visit asked (steps (At c next path frames)) (act policy c next path frames rule.action) (probe_steps (At chain next above others))
                    (act (Some Drop) chain next above others turned_rule.action) goes probe_goes h.1,
              )
            ]

        by_match : (b : Bool) → matches holds p m (path ++ step_of c next ∷ []) rule ≡ b → Turns (At c next path frames)
        by_match true b = taken b
        by_match false b = passed_by b

      by_rule : (o : Option (Rule P)) → slice_get here.rules next ≡ o → Turns (At c next path frames)
      by_rule None e = past_rules e
      by_rule (Some rule) e = by_match rule e (matches holds p m (path ++ step_of c next ∷ []) rule) refl

    -- one step of both walks
    pub turn : (c next : ℕ) (path : Path) (frames : List Frame) → Fine dump asked (At c next path frames) → Turns (At c next path frames)
    turn c next path frames fine =
        let at = found_at dump.chains c (leads_inside dump named (Some asked) path c (λ k e. (let q : asked ≡ k = cc in subst (λ (x : ℕ). x < length dump.chains) q there)) fine.0) in
        let other = chain_turned dump visit (entry_of dump) (Some asked) visit path c at.0 (copies_stand dump visit) follows fine.0 at.1 in
        by_rule c next path frames fine.0 fine.1 at.0 at.1 other (slice_get (at.0).rules next) refl

    abbrev walked : ℕ → State → Option State
    walked = after holds dump p m policy

    abbrev probe_walked : ℕ → State → Option State
    probe_walked = after holds (probe_of dump visit) p w (Some Drop)

    -- nothing comes after the end
    stays_ended : (k : ℕ) (v : Verdict) (t : State) → walked k (Ended v) ≡ Some t → t ≡ Ended v
    stays_ended zero v t e = cc
    stays_ended (suc k) v t e = cc

    stays_dropped : (k : ℕ) → probe_walked k (Ended Drop) ≡ Some (Ended Accept) → ⊥
    stays_dropped zero e = cc
    stays_dropped (suc k) e = cc

    -- what doesn't go on triggers nothing behind it
    no_trigger : (k : ℕ) (o : Option State) (t : State) → ((c next : ℕ) (path : Path) (frames : List Frame) → o ≡ Some (At c next path frames) → ⊥) →
        option_and_then (walked k) o ≡ Some t → TriggersAt holds dump p m visit t → ⊥
    no_trigger k None t stop e h = cc
    no_trigger k (Some (At c next path frames)) t stop e h = stop c next path frames refl
    no_trigger k (Some (Ended v)) t stop e h = subst (TriggersAt holds dump p m visit) (stays_ended k v t e) h

    -- what ends with Drop doesn't accept
    no_accept : (k : ℕ) (o : Option State) → ((t : State) → o ≡ Some t → t ≡ Ended Drop) → option_and_then (probe_walked k) o ≡ Some (Ended Accept) → ⊥
    no_accept k None stop e = cc
    no_accept k (Some t) stop e = stays_dropped k (subst (λ (x : State). probe_walked k x ≡ Some (Ended Accept)) (stop t refl) e)

    -- where the walk of the dump triggers the visit, the probe accepts
    pub probe_accepts : (k : ℕ) (s t : State) → Fine dump asked s → walked k s ≡ Some t → TriggersAt holds dump p m visit t → (j : ℕ) × (probe_walked j (lifted_state dump visit s) ≡ Some (Ended Accept))
    probe_accepts k (Ended v) t fine e h = absurd (subst (TriggersAt holds dump p m visit) (stays_ended k v t e) h)
    probe_accepts zero (At c next path frames) t fine e h =
        let same : t ≡ At c next path frames = cc in
        elim (turn c next path frames fine) [
          | inl hit ↦ (1, rw hit.1 refl)
          | inr not ↦ absurd (not.0 (subst (TriggersAt holds dump p m visit) same h))
        ]
    probe_accepts (suc k) (At c next path frames) t fine e h =
        elim (turn c next path frames fine) [
          | inl hit ↦ (1, rw hit.1 refl)
          | inr not ↦ elim not.1 [
            | inl on ↦
                let rest = probe_accepts k on.0 t on.3 (sym (ap (option_and_then (walked k)) on.1) ∙ e) h in
                (suc rest.0, ap (option_and_then (probe_walked rest.0)) on.2 ∙ rest.1)
            | inr stop ↦ absurd (no_trigger k (steps (At c next path frames)) t stop.0 e h)
          ]
        ]

    -- where the probe accepts, the walk of the dump triggers the visit
    pub triggers_there : (k : ℕ) (s : State) → Fine dump asked s → Stands dump visit s → probe_walked k (lifted_state dump visit s) ≡ Some (Ended Accept) →
        (j : ℕ) × (t : State) × (walked j s ≡ Some t) × TriggersAt holds dump p m visit t
    triggers_there k (Ended v) fine at e = absurd at
    triggers_there zero (At c next path frames) fine at e = cc
    triggers_there (suc k) (At c next path frames) fine at e =
        elim (turn c next path frames fine) [
          | inl hit ↦ (0, At c next path frames, refl, hit.0)
          | inr not ↦ elim not.1 [
            | inl on ↦
                let rest = triggers_there k on.0 on.3 on.4 (sym (ap (option_and_then (probe_walked k)) on.2) ∙ e) in
                (suc rest.0, rest.1, ap (option_and_then (walked rest.0)) on.1 ∙ rest.2, rest.3)
            | inr stop ↦ absurd (no_accept k (probe_steps (lifted_state dump visit (At c next path frames))) stop.1 e)
          ]
        ]
