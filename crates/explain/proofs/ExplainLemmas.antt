-- The explanation of a verdict, from what is reached and what the chosen walk takes.
use Rattle.std.specs.Prelude.{ℕ, ◌≤◌, ◌≡◌, ◌↔◌, Bool, true, false, List, [], map, length, Option, None, Some, slice_get, MatchOption, refl}
use Rattle.std.specs.Option.{option_map}
use Rattle.std.proofs.Common.{append-nil, arith, subst, sym, ap, ◌∙◌, true≢false}
use Rattle.std.proofs.lemmas.List.{length-map}
use Rattle.std.proofs.lemmas.Option.{slice_get-map}
use Rattle.fw_rule.specs.declared.rule.Verdict.{Verdict}
use Rattle.fw_rule.specs.declared.rule.Chain.{Chain}
use Rattle.fw_rule.specs.declared.rule.Dump.{Dump}
use Rattle.fw_rule.specs.declared.rule.Place.{Place}
use Rattle.fw_rule.specs.Walk.{Meaning, At, Ended, Walks, Settled, Within, Here, Reaches, policy_of, back, outcome_of}
use Rattle.fw_rule.proofs.Ends.{settled_inside, found_at, has_chain}
use Rattle.limits.specs.declared.TheConstants.{MOST_CHAINS}
use Rattle.chain_graph.specs.declared.graph.Ranked.{Ranked}
use Rattle.chain_graph.specs.Paths.{IsRank}
use Rattle.chain_graph.specs.Results.{IsRanked}
use Rattle.chain_graph.proofs.Paths.{within_more}
use Rattle.explain.specs.declared.reach.Reach.{Reach}
use Rattle.explain.specs.declared.views.View.{View}
use Rattle.explain.specs.Choices.{Arrives, ExplainsFrom}
use Rattle.explain.specs.inner.Reaching.{is_reached, Leads, LeadsBack, ReachIs}
use Rattle.explain.specs.inner.Views.{Has, Covers}
use Rattle.explain.specs.inner.Choosing.{ChoosesTo}
use Rattle.explain.proofs.Following.{follows, goes, freely}
use Rattle.explain.proofs.Leading.{ended_leads, verdict_leads}
use Rattle.explain.proofs.ReachLemmas.{reached_is}

-- no path of calls and gotos from a ranked chain has more chains than the limit
pub within_deepest : {P : Type 0} (dump : Dump P) (c : ℕ) (r : Ranked) → Settled dump c → IsRanked dump c r → Within dump MOST_CHAINS c
within_deepest dump c r s ranked =
    let inside = settled_inside dump c s in
    let f = found_at r.ranks c (omega (arith, inside, (ranked.ranks).0)) in by f.0 f.1 ((ranked.ranks).1 c f.0 f.1)
  where
    by : (o : Option ℕ) → slice_get r.ranks c ≡ Some o → MatchOption o (Reaches dump c c → ⊥) (λ rank. Reaches dump c c × IsRank dump c rank × (rank ≤ MOST_CHAINS)) → Within dump MOST_CHAINS c
    by None e h = absurd (h Here)
    by (Some rank) e h = within_more dump rank MOST_CHAINS c h.2 (ranked.within c rank e)

abbrev nothing_seen : Option View
nothing_seen = None

module _ {P : Type 0} (dump : Dump P) (views : List (Option View)) (is : views ≡ map (λ (here : Chain P). nothing_seen) dump.chains) where
  never : (o : Option (Chain P)) (view : View) → option_map (λ (here : Chain P). nothing_seen) o ≡ Some (Some view) → ⊥
  never None view e = cc
  never (Some x) view e = cc

  pub has_none : (c : ℕ) (view : View) → Has views c view → ⊥
  has_none c view h = never (slice_get dump.chains c) view (sym (slice_get-map (λ (here : Chain P). nothing_seen) dump.chains c) ∙ ap (λ (z : List (Option View)). slice_get z c) (sym is) ∙ h)

  pub covers_none : Covers dump views
  covers_none = record {
    long = ap length is ∙ length-map dump.chains (λ (here : Chain P). nothing_seen);
    sights = λ c view here h e. absurd (has_none c view h);
    below = λ c view h k q. absurd (has_none c view h);
  }

-- the asked chain has this policy
module _ {P Packet : Type 0} (holds : P → Packet → Bool) (dump : Dump P) (p : Packet) (v : Verdict) (c : ℕ) (policy : Verdict) (policy_is : policy_of dump c ≡ Some policy)
    (by_policy : Bool) (by_is : (by_policy ≡ true → policy ≡ v) × (policy ≡ v → by_policy ≡ true)) where
  abbrev its : Option Verdict
  its = policy_of dump c

  past_end : (by_policy ≡ true) ↔ LeadsBack holds dump p its v []
  past_end = (
    λ e. (Ended policy, ap (λ (o : Option Verdict). back o []) policy_is, verdict_leads holds dump p its v policy (by_is.0 e)),
    λ b. by_is.1 (let o : Some (Ended policy) ≡ Some b.0 = sym (ap (λ (o : Option Verdict). back o []) policy_is) ∙ b.1 in
        let same : b.0 ≡ Ended policy = cc in ended_leads holds dump p its v policy (subst (Leads holds dump p its v) same b.2)),
  )

  start_is : (start : Reach) → ReachIs holds dump p v c 0 start → (is_reached start by_policy ≡ true) ↔ Leads holds dump p its v (At c 0 [] [])
  start_is start is =
      let r = reached_is holds dump p its v [] by_policy past_end start in
      let l = is its [] [] in
      (λ e. l.1 (r.0 e), λ x. r.1 (l.0 x))

  -- no meaning's walk has the verdict
  pub unexplained : (start : Reach) → ReachIs holds dump p v c 0 start → is_reached start by_policy ≡ false → (m : Meaning) → ¬ Walks holds dump p m c v
  unexplained start is e m w = true≢false (sym ((start_is start is).1 (goes holds dump p its v m w.0 (At c 0 [] []) w.1)) ∙ e)

  ended_by : (o : Option Verdict) → (w : Verdict) × (outcome_of o its [] ≡ Some (Ended w))
  ended_by None = (policy, ap (λ (z : Option Verdict). back z []) policy_is)
  ended_by (Some w) = (w, refl)

  -- the chosen walk has it
  pub explained : (start : Reach) → ReachIs holds dump p v c 0 start → is_reached start by_policy ≡ true → (o : Option Verdict) (places : List Place) → ChoosesTo holds dump p v c [] by_policy places o →
      ExplainsFrom holds dump p its v (At c 0 [] []) places × Walks holds dump p places c v
  explained start is e o places ch =
      let lead : Leads holds dump p its v (At c 0 [] []) = (start_is start is).0 e in
      let end = ended_by o in
      let here = has_chain dump c policy policy_is in
      let chosen = ch here.0 here.1 its [] tt past_end (Ended end.0) end.1 in
      let same : end.0 ≡ v = ended_leads holds dump p its v end.0 (chosen.leads lead) in
      let all : ExplainsFrom holds dump p its v (At c 0 [] []) places =
      subst (ExplainsFrom holds dump p its v (At c 0 [] [])) (append-nil places) (chosen.explains [] (subst (λ (w : Verdict). ExplainsFrom holds dump p its v (Ended w) []) (sym same) Arrives)) in
      (all, follows holds dump p its v (At c 0 [] []) places (freely holds dump p its v (At c 0 [] []) places all) tt [] tt)
