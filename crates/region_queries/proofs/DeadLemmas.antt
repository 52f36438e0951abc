-- What a probe tells of its visit.
use Rattle.std.specs.Prelude.{ℕ, zero, suc, ◌+◌, ◌<◌, ◌≤◌, ◌^◌, ◌-◌, ◌≡◌, ◌↔◌, Bool, true, false, List, [], ◌∷◌, ◌++◌, Option, None, Some, MatchOption, length, map, min, unwrap_or, slice_get, refl}
use Rattle.std.proofs.Common.{subst, sym, ap, ◌∙◌, arith, inl, inr, true≢false, append_assoc, append-nil}
use Rattle.std.specs.List.{AllByRecursion}
use Rattle.limits.specs.declared.TheConstants.{MOST_CHAINS, MOST_VISITS}
use Rattle.primitives.specs.declared.prim.Packet.{Packet as APacket}
use Rattle.primitives.specs.declared.prim.Prim_.{Prim_}
use Rattle.primitives.specs.Holds.{IsValid, holds_of}
use Rattle.fw_rule.specs.declared.rule.Verdict.{Verdict}
use Rattle.fw_rule.specs.declared.rule.Verdict.TheVariants.{Accept, Drop}
use Rattle.fw_rule.specs.declared.rule.Dump.{Dump}
use Rattle.fw_rule.specs.declared.rule.Place.{Place}
use Rattle.fw_rule.specs.declared.side.Side.{Side}
use Rattle.fw_rule.specs.Walk.{May, Meaning, Path, Reaches, Here, State, At, Ended, Walks, after, policy_of}
use Rattle.fw_laws.specs.Places.{Visits}
use Rattle.fw_rule.proofs.Ends.{settled_inside}
use Rattle.chain_graph.specs.declared.graph.GraphFault.{GraphFault}
use Rattle.chain_graph.specs.declared.graph.Ranked.{Ranked}
use Rattle.chain_graph.specs.Paths.{CallsNameChains}
use Rattle.chain_graph.specs.Refusals.{IsChecked, Refuses}
use Rattle.chain_graph.specs.Results.{IsRanked}
use Rattle.chain_graph.specs.Visits.{HasVisits}
use Rattle.box_norm.specs.declared.cube.SimpleRule.{SimpleRule}
use Rattle.box_norm.specs.Normal.{whole_of}
use Rattle.box_norm.specs.Cubes.{holds_cube}
use Rattle.box_norm.proofs.NormalLaws.{whole_holds}
use Rattle.region_cut.specs.Search.{Finds, IsTooLarge, Tells, is_accepted, with_policy}
use Rattle.simple_filter.specs.Closed.{Accepts, RefusesClosed}
use Rattle.simple_filter.specs.Refused.{of_check}
use Rattle.simple_filter.specs.declared.refusal.Kind.{Kind}
use Rattle.simple_filter.specs.declared.refusal.Refusal.{Refusal}
use Rattle.explain.specs.Answers.{IsExplained}
use Rattle.explain.specs.Choices.{ExplainsFrom}
use Rattle.region_queries.specs.declared.answers.Live.{Live}
use Rattle.region_queries.specs.declared.answers.Visit.{Visit}
use Rattle.region_queries.specs.declared.visiting.TheConstants.{MOST_LISTED_VISITS}
use Rattle.region_queries.specs.Probe.{entry_of, own_place, probe_of}
use Rattle.region_queries.specs.Visits.{AreVisits, FewVisits, ManyVisits, Triggers}
use Rattle.region_queries.specs.Dead.{AnswersDead, Hits, IsInLimits, IsListable, IsRightOf, IsShown, PassesFirst, PassesLimit, RefusesDead}
use Rattle.region_queries.specs.inner.Living.{HasFew, IsVisit, RefusesProbe, TellsOf}
use Rattle.region_queries.proofs.WalkLemmas.{Fine, TriggersAt, lifted_state, probe_accepts, triggers_there}
use Rattle.region_queries.proofs.PlaceLemmas.{all_both, are_visits, lifted_agrees, lifted_meaning, own_agrees, places_above}
use Rattle.region_queries.proofs.CheckedLemmas.{no_more, probe_policy, start_is}

module _ {P Packet : Type 0} (holds : P → Packet → Bool) (dump : Dump P) (asked : ℕ) (visit : Path) (is : IsVisit dump asked visit) (named : CallsNameChains dump) (there : asked < length dump.chains)
    (p : Packet) where
  abbrev probe : Dump P
  probe = probe_of dump visit

  abbrev start : State
  start = At asked 0 [] []

  -- what triggers the visit the probe may accept
  pub triggers_may : (m : Meaning) → Triggers holds dump asked visit p m → May holds probe (entry_of dump) p
  triggers_may m t =
      let at : State = At t.comes.chain t.comes.next t.comes.calls t.comes.frames in
      let goes = probe_accepts holds dump p m (lifted_meaning dump visit asked is.follows m) asked visit (policy_of dump asked) is.follows named there (lifted_agrees dump visit asked is.follows m)
      t.count start at (refl, tt) t.comes.stands (sym t.comes.steps, t.rule, t.at, t.it_matches) in (
        lifted_meaning dump visit asked is.follows m,
        (
          goes.0,
          subst (λ (policy : Option Verdict). after holds probe p (lifted_meaning dump visit asked is.follows m) policy goes.0 (At (entry_of dump) 0 [] []) ≡ Some (Ended Accept)) (sym (probe_policy dump asked visit is))
              (subst (λ (s : State). after holds probe p (lifted_meaning dump visit asked is.follows m) (Some Drop) goes.0 s ≡ Some (Ended Accept)) (start_is dump asked visit is) goes.1),
        ),
      )

  triggers_at : (m : Meaning) (j : ℕ) (t : State) → after holds dump p m (policy_of dump asked) j start ≡ Some t → TriggersAt holds dump p m visit t → Triggers holds dump asked visit p m
  triggers_at m j (Ended v) e h = absurd h
  triggers_at m j (At c next path frames) e h = record {
    count = j;
    comes = record { chain = c; next = next; calls = path; frames = frames; stands = e; steps = sym h.0 };
    rule = h.1;
    at = h.2;
    it_matches = h.3;
  }

  -- the places that explain why the probe accepts trigger the visit, as the dump has them
  pub explained_triggers : (places : List Place) → ExplainsFrom holds probe p (policy_of probe (entry_of dump)) Accept (At (entry_of dump) 0 [] []) places → Walks holds probe p places (entry_of dump) Accept →
      Triggers holds dump asked visit p (map (own_place dump visit) places)
  explained_triggers places explains walks =
      let policy = probe_policy dump asked visit is in
      let begins = start_is dump asked visit is in
      let explains' = subst (λ (o : Option Verdict). ExplainsFrom holds probe p o Accept (At (entry_of dump) 0 [] []) places) policy explains in
      let above = places_above dump visit asked is.follows named there holds p Accept (At (entry_of dump) 0 [] []) places explains' start (sym begins) (refl, tt) in
      let walks' : after holds probe p places (Some Drop) walks.0 (lifted_state dump visit start) ≡ Some (Ended Accept) =
      subst (λ (s : State). after holds probe p places (Some Drop) walks.0 s ≡ Some (Ended Accept)) (sym begins)
      (subst (λ (o : Option Verdict). after holds probe p places o walks.0 (At (entry_of dump) 0 [] []) ≡ Some (Ended Accept)) policy walks.1) in
      let m = map (own_place dump visit) places in
      let goes = triggers_there holds dump p m places asked visit (policy_of dump asked) is.follows named there (own_agrees dump visit asked is.follows places above) walks.0 start (refl, tt) tt walks' in
      triggers_at m goes.0 goes.1 goes.2 goes.3

-- a check of the probe is refused for want of memory alone
pub checked_refused : {P : Type 0} (dump : Dump P) (c : ℕ) → IsChecked dump c → (fault : GraphFault) → Refuses dump c fault → of_check fault ≡ Refusal.Memory
checked_refused dump c checked (GraphFault.Unsupported line name) r =
    absurd (checked.settled.known_targets ((r.0).1).0 (r.0).0 name ((r.0).1).1 ((r.0).1).2 ((r.0).1).3)
checked_refused dump c checked (GraphFault.Loop k) r = absurd (checked.settled.no_loop k ((r.1).0).1.0 ((r.1).0).0 ((r.1).0).1.1 ((r.1).0).1.2)
checked_refused dump c checked GraphFault.Depth r = absurd (checked.depth r.2)
checked_refused dump c checked GraphFault.Memory r = refl

module _ {W : ℕ} (probe : Dump (Prim_ W)) (entry : ℕ) (checked : IsChecked probe entry) where
  pub closed_refused : (refusal : Refusal) → RefusesClosed probe entry Side.Upper refusal → RefusesProbe probe entry refusal
  closed_refused (Refusal.Unsupported line name) r = let h = checked_refused probe entry checked (GraphFault.Unsupported line name) r in cc
  closed_refused (Refusal.Loop c) r = let h = checked_refused probe entry checked (GraphFault.Loop c) r in cc
  closed_refused (Refusal.Limit Kind.Depth) r = absurd (checked.depth r.2)
  closed_refused (Refusal.Limit Kind.Nodes) r = r
  closed_refused (Refusal.Limit Kind.Literals) r = r
  closed_refused (Refusal.Limit Kind.Boxes) r = r
  closed_refused (Refusal.Limit Kind.Rules) r = r
  closed_refused (Refusal.Limit Kind.Lines) r = r
  closed_refused (Refusal.Limit Kind.Atoms) r = r
  closed_refused (Refusal.Limit Kind.Regions) r = absurd r
  closed_refused (Refusal.Limit Kind.Visits) r = r
  closed_refused Refusal.Memory r = tt

  -- what the search tells, of the probe
  pub search_tells : policy_of probe entry ≡ Some Drop → (rules : List (SimpleRule W)) → ((policy : Verdict) → policy_of probe entry ≡ Some policy → Accepts Side.Upper probe entry policy rules) →
      (o : Option APacket) → Tells (whole_of W) rules Drop o → TellsOf probe entry o
  search_tells drops rules means None tells = λ p v may. true≢false (sym ((means Drop drops p v).1 may) ∙ tells p v (whole_holds W p v))
  search_tells drops rules means (Some p) tells = (tells.0, (means Drop drops p tells.0).0 tells.2)

-- few visits can be explained
pub few_explained : {P : Type 0} (probe : Dump P) (entry : ℕ) (ranked : Ranked) → HasFew probe entry → IsRanked probe entry ranked → ranked.visits ≤ MOST_VISITS
few_explained probe entry ranked few r = let n = few (r.visits.0) (r.visits.1) in let e = r.visits.2 in omega (arith, n, e)

pub few_visits : {P : Type 0} (dump : Dump P) (asked : ℕ) (visit : Path) → IsVisit dump asked visit → CallsNameChains dump → FewVisits dump asked → HasFew (probe_of dump visit) (entry_of dump)
few_visits dump asked visit is named few n h = let less = no_more dump asked visit is named n few.0 h few.1 in let most = few.2 in omega (arith, less, most)

module _ {W : ℕ} (dump : Dump (Prim_ W)) (asked : ℕ) (visit : Path) (is : IsVisit dump asked visit) (named : CallsNameChains dump) (checked : IsChecked dump asked) where
  abbrev inside : asked < length dump.chains
  inside = settled_inside dump asked checked.settled

  -- no packet is found
  pub dead_right : TellsOf (probe_of dump visit) (entry_of dump) None → IsRightOf dump asked visit None
  dead_right tells = λ p m v t. tells p v (triggers_may holds_of dump asked visit is named inside p m t)

  -- a packet is found, and why the probe accepts it
  pub live_right : (p : APacket) → TellsOf (probe_of dump visit) (entry_of dump) (Some p) → (places own : List Place) → IsExplained holds_of (probe_of dump visit) p (entry_of dump) Accept (Some places) →
      own ≡ map (own_place dump visit) places → IsRightOf dump asked visit (Some (record { packet = p; places = own }))
  live_right p tells places own explained e = (
    tells.0,
    subst (λ (m : Meaning). Triggers holds_of dump asked visit p m) (sym e) (explained_triggers holds_of dump asked visit is named inside p places explained.0 explained.1),
  )

  -- it is explained
  pub never_unexplained : (p : APacket) → TellsOf (probe_of dump visit) (entry_of dump) (Some p) → IsExplained holds_of (probe_of dump visit) p (entry_of dump) Accept None → ⊥
  never_unexplained p tells none = none (tells.1).0 (tells.1).1

-- The visits that were answered, and those that are left.
pub record SoFar {W : ℕ} (dump : Dump (Prim_ W)) (asked : ℕ) (paths : List Path) (visits : List Visit) (left : List Path) : Type 0 where
  pub listed : map (λ (v : Visit). v.steps) visits ++ left ≡ paths
  pub right : AllByRecursion (λ (v : Visit). IsRightOf dump asked v.steps v.live) visits
  pub shown : AllByRecursion (λ (v : Visit). IsInLimits (probe_of dump v.steps) (entry_of dump) × IsShown dump v.steps v.live) visits
  pub are : AllByRecursion (IsVisit dump asked) left

module _ {W : ℕ} (dump : Dump (Prim_ W)) (asked : ℕ) (paths : List Path) (listed : AreVisits dump asked paths) where
  pub at_first : SoFar dump asked paths [] paths
  at_first = record { listed = refl; right = tt; shown = tt; are = are_visits dump asked asked 0 [] paths listed refl }

  map_both : (visits : List Visit) (v : Visit) → map (λ (x : Visit). x.steps) (visits ++ v ∷ []) ≡ map (λ (x : Visit). x.steps) visits ++ v.steps ∷ []
  map_both [] v = refl
  map_both (x ∷ visits) v = ap (λ (xs : List Path). x.steps ∷ xs) (map_both visits v)

  in_limits : (visits : List Visit) → AllByRecursion (λ (v : Visit). IsInLimits (probe_of dump v.steps) (entry_of dump) × IsShown dump v.steps v.live) visits →
      AllByRecursion (λ (v : Path). IsInLimits (probe_of dump v) (entry_of dump)) (map (λ (x : Visit). x.steps) visits)
  in_limits [] h = tt
  in_limits (x ∷ visits) h = ((h.0).0, in_limits visits h.1)

  module _ (visits : List Visit) (steps : Path) (left : List Path) (s : SoFar dump asked paths visits (steps ∷ left)) where
    pub next_is_visit : IsVisit dump asked steps
    next_is_visit = s.are.0

    pub on : (live : Option Live) (visits' : List Visit) → visits' ≡ visits ++ record { steps = steps; live = live } ∷ [] → IsRightOf dump asked steps live →
        IsInLimits (probe_of dump steps) (entry_of dump) → IsShown dump steps live → SoFar dump asked paths visits' left
    on live visits' e right limits shown = subst (λ (xs : List Visit). SoFar dump asked paths xs left) (sym e) (record {
      listed = ap (λ (xs : List Path). xs ++ left) (map_both visits (record { steps = steps; live = live }))
          ∙ append_assoc (map (λ (x : Visit). x.steps) visits) (steps ∷ []) left ∙ s.listed;
      right = all_both (λ (v : Visit). IsRightOf dump asked v.steps v.live) visits (record { steps = steps; live = live } ∷ []) s.right (right, tt);
      shown = all_both (λ (v : Visit). IsInLimits (probe_of dump v.steps) (entry_of dump) × IsShown dump v.steps v.live) visits (record { steps = steps; live = live } ∷ []) s.shown ((limits, shown), tt);
      are = s.are.1;
    })

    first_refused : IsListable dump asked → (kind : Kind) → PassesLimit (probe_of dump steps) (entry_of dump) kind → IsListable dump asked × PassesFirst dump asked kind
    first_refused listable kind h = (
      listable,
      record {
        before = map (λ (x : Visit). x.steps) visits;
        visit = steps;
        later = left;
        listed = subst (AreVisits dump asked) (sym s.listed) listed;
        in_limits = in_limits visits s.shown;
        passes = h;
      },
    )

    pub refused_at : IsListable dump asked → (refusal : Refusal) → RefusesProbe (probe_of dump steps) (entry_of dump) refusal → RefusesDead dump asked refusal
    refused_at listable (Refusal.Unsupported line name) r = absurd r
    refused_at listable (Refusal.Loop c) r = absurd r
    refused_at listable (Refusal.Limit Kind.Depth) r = absurd r
    refused_at listable (Refusal.Limit Kind.Nodes) r = first_refused listable Kind.Nodes r
    refused_at listable (Refusal.Limit Kind.Literals) r = first_refused listable Kind.Literals r
    refused_at listable (Refusal.Limit Kind.Boxes) r = first_refused listable Kind.Boxes r
    refused_at listable (Refusal.Limit Kind.Rules) r = first_refused listable Kind.Rules r
    refused_at listable (Refusal.Limit Kind.Lines) r = absurd r
    refused_at listable (Refusal.Limit Kind.Atoms) r = absurd r
    refused_at listable (Refusal.Limit Kind.Regions) r = first_refused listable Kind.Regions r
    refused_at listable (Refusal.Limit Kind.Visits) r = absurd r
    refused_at listable Refusal.Memory r = tt

  pub at_end : (visits : List Visit) → SoFar dump asked paths visits [] → AnswersDead dump asked visits
  at_end visits s = record {
    listed = subst (AreVisits dump asked) (sym (sym (append-nil (map (λ (x : Visit). x.steps) visits)) ∙ s.listed)) listed;
    right = s.right;
    shown = s.shown;
  }

-- a check of the chain refuses it
pub check_refused : {W : ℕ} (dump : Dump (Prim_ W)) (asked : ℕ) (fault : GraphFault) → Refuses dump asked fault → RefusesDead dump asked (of_check fault)
check_refused dump asked (GraphFault.Unsupported line name) r = r
check_refused dump asked (GraphFault.Loop k) r = r
check_refused dump asked GraphFault.Depth r = r
check_refused dump asked GraphFault.Memory r = tt

-- the visits, as the check counts them
pub many_visits : {P : Type 0} (dump : Dump P) (asked : ℕ) (ranked : Ranked) → IsRanked dump asked ranked → MOST_LISTED_VISITS < ranked.visits → ManyVisits dump asked
many_visits dump asked ranked r h = (r.visits.0, r.visits.1, (let e = r.visits.2 in omega (arith, h, e)))

pub are_few : {P : Type 0} (dump : Dump P) (asked : ℕ) (ranked : Ranked) → IsRanked dump asked ranked → ranked.visits ≤ MOST_LISTED_VISITS → FewVisits dump asked
are_few dump asked ranked r h = (r.visits.0, r.visits.1, (let e = r.visits.2 in omega (arith, h, e)))
