-- The ranks of a whole table.
use Rattle.std.specs.Prelude.{ℕ, suc, ◌<◌, ◌≤◌, ◌≡◌, map, List, length, Option, None, Some, slice_get, refl, MatchOption}
use Rattle.std.specs.Option.{option_map}
use Rattle.std.proofs.Common.{arith, subst, sym, ap, ◌∙◌, inl, inr}
use Rattle.std.proofs.lemmas.List.{length-map}
use Rattle.std.proofs.lemmas.Option.{slice_get-map}
use Rattle.fw_rule.specs.declared.rule.Verdict.{Verdict}
use Rattle.fw_rule.specs.declared.rule.Chain.{Chain}
use Rattle.fw_rule.specs.declared.rule.Dump.{Dump}
use Rattle.fw_rule.specs.Walk.{policy_of, Reaches, Here, Over, Within}
use Rattle.fw_rule.proofs.Ends.{found_at}
use Rattle.fw_rule.proofs.Loops.{sinks, no_round}
use Rattle.limits.specs.declared.TheConstants.{MOST_CHAINS}
use Rattle.chain_graph.specs.declared.ranking.Found.{Found}
use Rattle.chain_graph.specs.declared.graph.Ranked.{Ranked}
use Rattle.chain_graph.specs.Paths.{AreRanks, HasPath, IsRank}
use Rattle.chain_graph.specs.Refusals.{IsChecked, SettledByPolicy}
use Rattle.chain_graph.specs.Results.{IsRanked}
use Rattle.chain_graph.specs.inner.Tables.{Has, IsTable, Grows}
use Rattle.chain_graph.proofs.Paths.{rank_of, path_bound}

abbrev rank_of_found : Found → ℕ
rank_of_found f = f.rank

abbrev nothing_found : Option Found
nothing_found = None

-- what stands under a rank
under : (o : Option (Option Found)) (p : Option ℕ) → option_map (option_map rank_of_found) o ≡ Some p → (x : Option Found) × (o ≡ Some x) × (option_map rank_of_found x ≡ p)
under None p e = cc
under (Some x) p e = (x, refl, cc)

module _ {P : Type 0} (dump : Dump P) where
  never : (o : Option (Chain P)) (f : Found) → option_map (λ (here : Chain P). nothing_found) o ≡ Some (Some f) → ⊥
  never None f e = cc
  never (Some x) f e = cc

  pub has_none : (table : List (Option Found)) → table ≡ map (λ (here : Chain P). nothing_found) dump.chains → (c : ℕ) (f : Found) → Has table c f → ⊥
  has_none table is c f h = never (slice_get dump.chains c) f (sym (slice_get-map (λ (here : Chain P). nothing_found) dump.chains c) ∙ ap (λ (z : List (Option Found)). slice_get z c) (sym is) ∙ h)

  pub no_table : (table : List (Option Found)) → table ≡ map (λ (here : Chain P). nothing_found) dump.chains → IsTable dump table
  no_table table is = record {
    long = ap length is ∙ length-map dump.chains (λ (here : Chain P). nothing_found);
    right = λ c f h. absurd (has_none table is c f h);
    below = λ c f h. absurd (has_none table is c f h);
  }

  module _ (asked : ℕ) (start table : List (Option Found)) (empty : (c : ℕ) (f : Found) → Has start c f → ⊥) (right : IsTable dump table) (grows : Grows dump asked start table)
      (top : Found) (has : Has table asked top) (low : top.rank ≤ MOST_CHAINS) where
    reached_has : (a c : ℕ) (f : Found) → Has table a f → Reaches dump a c → (g : Found) × Has table c g
    reached_has a c f h Here = (f, h)
    reached_has a c f h (Over {b = k} q r) = let o = right.below a f h k q in reached_has k c o.0 o.1 r

    has_reached : (c : ℕ) (f : Found) → Has table c f → Reaches dump asked c
    has_reached c f h = elim (grows.new c f h) [ inl old ↦ absurd (empty c f old) | inr r ↦ r ]

    small : (c : ℕ) (f : Found) → Has table c f → f.rank ≤ MOST_CHAINS
    small c f h =
        let s = sinks dump top.rank asked c (right.right asked top has).within (has_reached c f h) in
        let b = path_bound dump s.0 c f.rank s.2 (right.right c f h).path in
        omega (arith, s.1, b, low)

    item : (c : ℕ) (x : Option Found) → slice_get table c ≡ Some x → MatchOption (option_map rank_of_found x) (Reaches dump asked c → ⊥) (λ r. Reaches dump asked c × IsRank dump c r × (r ≤ MOST_CHAINS))
    item c None e = λ r. let o = reached_has asked c top has r in differ o.0 (sym e ∙ o.1)
      where
        differ : (g : Found) → ◌≡◌ {A = Option (Option Found)} (Some None) (Some (Some g)) → ⊥
        differ g q = cc
    item c (Some f) e = (has_reached c f e, rank_of dump c f.rank (right.right c f e).within (right.right c f e).path, small c f e)

    pub are_ranks : AreRanks dump asked (map (option_map rank_of_found) table)
    are_ranks = (
      length-map table (option_map rank_of_found) ∙ right.long,
      λ c o e.
          let u = under (slice_get table c) o (sym (slice_get-map (option_map rank_of_found) table c) ∙ e) in
          subst (λ (z : Option ℕ). MatchOption z (Reaches dump asked c → ⊥) (λ r. Reaches dump asked c × IsRank dump c r × (r ≤ MOST_CHAINS))) u.2 (item c u.0 u.1),
    )

    found_rank : (x : Option Found) (r : ℕ) → option_map rank_of_found x ≡ Some r → (f : Found) × (x ≡ Some f) × (f.rank ≡ r)
    found_rank None r e = cc
    found_rank (Some f) r e = (f, refl, cc)

    pub within_rank : (c r : ℕ) → slice_get (map (option_map rank_of_found) table) c ≡ Some (Some r) → Within dump r c
    within_rank c r e =
        let u = under (slice_get table c) (Some r) (sym (slice_get-map (option_map rank_of_found) table c) ∙ e) in
        let f = found_rank u.0 r u.2 in
        subst (λ (z : ℕ). Within dump z c) f.2 (right.right c f.0 (u.1 ∙ ap (λ (z : Option Found). Some z) f.1)).within

    pub is_ranked : (r : Ranked) → r.entry ≡ asked → r.ranks ≡ map (option_map rank_of_found) table → r.visits ≡ top.visits → IsRanked dump asked r
    is_ranked r e ranks_are v = record {
      entry = e;
      ranks = subst (AreRanks dump asked) (sym ranks_are) are_ranks;
      within = λ c rank h. within_rank c rank (subst (λ (z : List (Option ℕ)). slice_get z c ≡ Some (Some rank)) ranks_are h);
      visits = (let n = (right.right asked top has).visits in (n.0, n.1, v ∙ n.2));
      no_loop = λ c l. no_round dump top.rank asked c (l.1).0 (right.right asked top has).within l.0 (l.1).1 (l.1).2;
    }

-- what a check says of a chain that has a policy
module _ {P : Type 0} (dump : Dump P) (asked : ℕ) where
  -- no path from a chain that has a rank is too long
  no_deep_path : (ranks : List (Option ℕ)) → AreRanks dump asked ranks → asked < length dump.chains →
      HasPath dump asked (suc MOST_CHAINS) → ⊥
  no_deep_path ranks are inside path =
      let there = found_at ranks asked (omega (arith, inside, are.0)) in
      at there.0 (are.1 asked there.0 there.1)
    where
      at : (o : Option ℕ) →
          MatchOption o (Reaches dump asked asked → ⊥) (λ r. Reaches dump asked asked × IsRank dump asked r × (r ≤ MOST_CHAINS)) → ⊥
      at None never = never Here
      at (Some r) h =
          let most : suc MOST_CHAINS ≤ r = (h.1).1 (suc MOST_CHAINS) path in absurd (omega (arith, most, h.2))

  pub passes : (ranked : Ranked) → asked < length dump.chains → IsRanked dump asked ranked → SettledByPolicy dump asked →
      (v : Verdict) → policy_of dump asked ≡ Some v → IsChecked dump asked
  passes ranked inside is settled v has =
      record { settled = settled v has; depth = no_deep_path ranked.ranks is.ranks inside }
