-- A probe passes the checks that its dump passes.
use Rattle.std.specs.Prelude.{ℕ, zero, suc, ◌+◌, ◌<◌, ◌≤◌, ◌^◌, ◌≡◌, List, [], ◌∷◌, Option, None, Some, length, map, slice_get, refl}
use Rattle.std.proofs.Common.{subst, sym, ap, ◌∙◌, arith, inl, inr}
use Rattle.std.specs.List.{AllByRecursion}
use Rattle.std.proofs.lemmas.List.{length-map}
use Rattle.fw_rule.specs.declared.rule.Verdict.{Verdict}
use Rattle.fw_rule.specs.declared.rule.Verdict.TheVariants.{Drop}
use Rattle.fw_rule.specs.declared.rule.Chain.{Chain}
use Rattle.fw_rule.specs.declared.rule.Dump.{Dump}
use Rattle.fw_rule.specs.declared.rule.Step.{Step}
use Rattle.fw_rule.specs.Walk.{HasRoom, Path, Reaches, State, At, Within, policy_of, target_of}
use Rattle.fw_rule.proofs.Ends.{policy_is}
use Rattle.fw_laws.proofs.Asked.{rule_of_at}
use Rattle.chain_graph.specs.Paths.{CallsNameChains, Follow, HasPath}
use Rattle.chain_graph.specs.Refusals.{IsChecked}
use Rattle.chain_graph.specs.Visits.{HasVisits}
use Rattle.chain_graph.proofs.Paths.{path_bound}
use Rattle.limits.specs.declared.TheConstants.{MOST_CHAINS}
use Rattle.region_queries.specs.Probe.{copy_of, entry_of, next_copy, own_chain, probe_of}
use Rattle.region_queries.specs.Visits.{FewVisits}
use Rattle.region_queries.specs.inner.Living.{Follows, IsVisit}
use Rattle.region_queries.proofs.ProbeLemmas.{copies_stand}
use Rattle.region_queries.proofs.WalkLemmas.{lifted_state}
use Rattle.region_queries.proofs.PlaceLemmas.{own_copy, rule_there}
use Rattle.region_queries.proofs.GraphLemmas.{Under, fewer, from_call, from_chain, from_path, from_reach, from_rule, moved_other, probe_named, probe_room}

module _ {P : Type 0} (dump : Dump P) (asked : ℕ) where
  pub own_entry : (visit : Path) → IsVisit dump asked visit → own_chain dump visit (entry_of dump) ≡ asked
  own_entry [] is = absurd (omega (arith, is.some))
  own_entry (v ∷ vs) is = own_copy dump (v ∷ vs) [] v vs (entry_of dump) refl (omega arith) ∙ (let q : v.chain ≡ asked = cc (is.follows.0) in q)

  pub probe_policy : (visit : Path) → IsVisit dump asked visit → policy_of (probe_of dump visit) (entry_of dump) ≡ Some Drop
  probe_policy [] is = absurd (omega (arith, is.some))
  probe_policy (v ∷ vs) is =
      policy_is (probe_of dump (v ∷ vs)) (entry_of dump) (copy_of dump.chains v (next_copy (entry_of dump + 1) vs)) (copies_stand dump (v ∷ vs)).0

  -- where the walk of the probe begins
  pub start_is : (visit : Path) → IsVisit dump asked visit → lifted_state dump visit (At asked 0 [] []) ≡ At (entry_of dump) 0 [] []
  start_is [] is = absurd (omega (arith, is.some))
  start_is (v ∷ vs) is = refl

  follow : (o : Option ℕ) (v : Step) (vs : Path) → Follows dump o (v ∷ vs) → Follow dump v.chain (map (λ (s : Step). s.chain) vs)
  follow o v [] f = tt
  follow o v (w ∷ ws) f = ((f.1, rule_of_at dump 0 v.chain v.rule f.1 f.2, (f.3).0), follow (target_of (f.1).action) w ws f.3)

  visit_path : (visit : Path) → IsVisit dump asked visit → HasPath dump asked (length visit)
  visit_path [] is = absurd (omega (arith, is.some))
  visit_path (v ∷ vs) is =
      let q : v.chain ≡ asked = cc (is.follows.0) in
      (map (λ (s : Step). s.chain) vs, subst (λ (c : ℕ). Follow dump c (map (λ (s : Step). s.chain) vs)) q (follow (Some asked) v vs is.follows), ap suc (sym (length-map vs (λ (s : Step). s.chain))))

  -- the chains of its steps are there
  pub steps_there : (o : Option ℕ) (visit : Path) → Follows dump o visit → AllByRecursion (λ (s : Step). s.chain < length dump.chains) visit
  steps_there o [] f = tt
  steps_there o (v ∷ vs) f = (rule_there dump vs v f.1 f.2, steps_there (target_of (f.1).action) vs f.3)

  -- a visit is no longer than a call path may be
  pub visit_short : (visit : Path) → IsVisit dump asked visit → Within dump MOST_CHAINS asked → length visit ≤ MOST_CHAINS
  visit_short visit is within = path_bound dump MOST_CHAINS asked (length visit) within (visit_path visit is)

  module _ (visit : Path) (is : IsVisit dump asked visit) (named : CallsNameChains dump) where
    abbrev probe : Dump P
    probe = probe_of dump visit

    abbrev own : ℕ → ℕ
    own = own_chain dump visit

    reached : (a : ℕ) → Reaches probe (entry_of dump) a → Reaches dump asked (own a)
    reached a r = subst (λ (c : ℕ). Reaches dump c (own a)) (own_entry visit is) (from_reach dump visit named (Some asked) is.follows (entry_of dump) a r)

    pub probe_checked : IsChecked dump asked → IsChecked probe (entry_of dump)
    probe_checked checked = record {
      settled = record {
        policy = (Drop, probe_policy visit is);
        named = λ a b r call. probe_named dump visit named (Some asked) is.follows a b call;
        known_targets = λ a rule name r of e. (let f = from_rule dump visit named (Some asked) is.follows a rule of in
            elim (f.2).1 [
              | inl accepts ↦ cc (accepts, e)
              | inr goes ↦ checked.settled.known_targets (own a) f.0 name (reached a r) f.1 (moved_other goes.0 (f.0).action name (sym goes.1 ∙ e))
            ]);
        no_loop = λ a b r call back. checked.settled.no_loop (own a) (own b) (reached a r) (from_call dump visit named (Some asked) is.follows a b call).0
            (from_reach dump visit named (Some asked) is.follows b a back);
      };
      depth = λ path. checked.depth (subst (λ (c : ℕ). HasPath dump c (suc MOST_CHAINS)) (own_entry visit is) (from_path dump visit named (Some asked) is.follows (entry_of dump) (suc MOST_CHAINS) path));
    }

    -- it has no more visits
    pub no_more : (x y : ℕ) → HasVisits probe (entry_of dump) x → HasVisits dump asked y → x ≤ y
    no_more x y p d =
        let f = from_chain dump visit named (Some asked) is.follows (entry_of dump) p.0 p.1 in
        let at : slice_get dump.chains asked ≡ Some f.0 = subst (λ (c : ℕ). slice_get dump.chains c ≡ Some f.0) (own_entry visit is) f.1 in
        let same : f.0 ≡ d.0 = cc (at, d.1) in
        fewer dump visit named (Some asked) is.follows (p.0).rules x p.2 (d.0).rules (subst (λ (z : Chain P). Under dump visit (p.0).rules z.rules) same f.2) y d.2

    pub room : HasRoom dump → Within dump MOST_CHAINS asked → length dump.chains < 2 ^ 31 → HasRoom probe
    room fits within few = probe_room dump visit named (Some asked) is.follows fits (let h = visit_short visit is within in omega (arith, h, few))
