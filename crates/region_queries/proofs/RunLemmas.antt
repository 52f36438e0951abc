-- The state of the search: the rules that are left, and the regions that they are to search.
use Rattle.std.proofs.Common.{◌≡◌, ◌<◌, ◌≤◌, ◌⊎◌, ℕ, ◌+◌, List, [], ◌∷◌, true, None, Some, refl, inl, inr, sym, subst, arith, ap, length, get_or, drop}
use Rattle.std.specs.List.{AllByRecursion}
use Rattle.std.proofs.lemmas.List.{drop_all}
use Rattle.limits.specs.declared.TheConstants.{MOST_REGIONS}
use Rattle.interval_set.specs.Numbers.{IsWidth}
use Rattle.primitives.specs.declared.prim.Packet.{Packet}
use Rattle.fw_rule.specs.declared.rule.Verdict.{Verdict}
use Rattle.fw_rule.specs.Answers.{is_accept}
use Rattle.box_norm.specs.declared.cube.Cube.{Cube}
use Rattle.box_norm.specs.declared.cube.SimpleRule.{SimpleRule}
use Rattle.box_norm.specs.Normal.{whole_of}
use Rattle.box_norm.specs.Regular.{HasStates}
use Rattle.region_cut.specs.declared.fault.RegionFault.{RegionFault}
use Rattle.region_cut.specs.Search.{LeavesMany, with_policy}
use Rattle.region_cut.proofs.Items.{drop_item}
use Rattle.region_cut.proofs.Searching.{each_states}
use Rattle.region_cut.proofs.WholeLaws.{without_whole}
use Rattle.region_queries.specs.declared.answers.Cover.{Cover}
use Rattle.region_queries.specs.Search.{Answers, AtEnd, Behind, Compares, FindsNothing, Found, Grows, GrowsFirst, Here, Inside, IsTooLarge, Passed, without}
use Rattle.region_queries.specs.inner.Asking.{AsksRule, RefusesRule, RefusesSearch}
use Rattle.region_queries.proofs.AskLemmas.{none_found}

-- where the regions here aren't more than so many, the search comes to more at the first rule or behind it
abbrev Goes : {W : ℕ} → List (SimpleRule W) → List (SimpleRule W) → List (Cube W) → Type 0
Goes against [] regions = ⊥
Goes against (rule ∷ rules) regions =
    ((rule.accept ≡ true) × GrowsFirst MOST_REGIONS against regions rule.cube) ⊎ (FindsNothing against rule regions × Grows MOST_REGIONS against rules (without rule.cube regions))

here_or_on : {W : ℕ} (against rules : List (SimpleRule W)) (regions : List (Cube W)) → Grows MOST_REGIONS against rules regions → (MOST_REGIONS < length regions) ⊎ Goes against rules regions
here_or_on against rules regions (Here many) = inl many
here_or_on against rules regions (Inside accepted grows) = inr (inl (accepted, grows))
here_or_on against rules regions (Behind none grows) = inr (inr (none, grows))

goes_on : {W : ℕ} (against rules : List (SimpleRule W)) (regions : List (Cube W)) → length regions ≤ MOST_REGIONS → Grows MOST_REGIONS against rules regions → Goes against rules regions
goes_on against rules regions few grows = elim (here_or_on against rules regions grows) [
  | inl many ↦ absurd (omega (arith, few, many))
  | inr on ↦ on
]

-- The search of all packets by all rules goes on as that of these regions by the rules that are left.
pub record Compared {W : ℕ} (against rules left : List (SimpleRule W)) (regions : List (Cube W)) : Type 0 where
  pub answers : (answer : Cover) → Compares against left regions answer → Compares against rules (whole_of W ∷ []) answer
  pub more : Grows MOST_REGIONS against left regions → IsTooLarge against rules
  pub no_more : IsTooLarge against rules → Grows MOST_REGIONS against left regions
  pub few : length regions ≤ MOST_REGIONS
  pub states : AllByRecursion HasStates regions

-- one rule on
module _ {W : ℕ} (others : List (SimpleRule W)) (other : Verdict) (rules : List (SimpleRule W)) (rule : SimpleRule W) (left : List (SimpleRule W)) (regions : List (Cube W))
    (s : Compared (with_policy others other) rules (rule ∷ left) regions) where
  abbrev against : List (SimpleRule W)
  against = with_policy others other

  behind : AsksRule against rule regions None → Grows MOST_REGIONS against (rule ∷ left) regions → Grows MOST_REGIONS against left (without rule.cube regions)
  behind none grows = elim (goes_on against (rule ∷ left) regions s.few grows) [
    | inl inside ↦ absurd (none.1 inside.0 inside.1)
    | inr on ↦ on.1
  ]

  goes : AsksRule against rule regions None → length (without rule.cube regions) ≤ MOST_REGIONS → Compared against rules left (without rule.cube regions)
  goes none few = record {
    answers = λ answer c. s.answers answer (Passed none.0 c);
    more = λ grows. s.more (Behind none.0 grows);
    no_more = λ grows. behind none (s.no_more grows);
    few = few;
    states = each_states rule.cube regions s.states;
  }

  pub passed : (after : List (Cube W)) → AsksRule against rule regions None → after ≡ without rule.cube regions → length after ≤ MOST_REGIONS → Compared against rules left after
  passed after none is few = subst (Compared against rules left) (sym is) (goes none (omega (arith, ap length is, few)))

  found_grows : (p : Packet) → AsksRule against rule regions (Some p) → Grows MOST_REGIONS against (rule ∷ left) regions → ⊥
  found_grows p some grows = elim (goes_on against (rule ∷ left) regions s.few grows) [
    | inl inside ↦ some.1.1 inside.1
    | inr on ↦ none_found others other regions rule.cube p (on.0 some.0) some.1.0
  ]

  pub found : (p : Packet) → AsksRule against rule regions (Some p) → Answers against rules (Cover.Fails p)
  found p some = (s.answers (Cover.Fails p) (Found some.0 some.1.0), λ large. found_grows p some (s.no_more large))

  pub asking_refused : (fault : RegionFault) → RefusesRule against rule regions fault → RefusesSearch against rules fault
  asking_refused RegionFault.Regions grows = s.more (Inside grows.0 grows.1)
  asking_refused RegionFault.Memory grows = tt

  pub leaving_refused : (fault : RegionFault) → AsksRule against rule regions None → LeavesMany regions rule.cube fault → RefusesSearch against rules fault
  leaving_refused RegionFault.Regions none many = s.more (Behind none.0 (Here many))
  leaving_refused RegionFault.Memory none many = tt

-- at the end
nothing_left : {W : ℕ} (others : List (SimpleRule W)) (other : Verdict) (rules : List (SimpleRule W)) (regions : List (Cube W)) → Compared (with_policy others other) rules [] regions →
    Answers (with_policy others other) rules Cover.Holds
nothing_left others other rules regions s = (s.answers Cover.Holds AtEnd, λ large. goes_on (with_policy others other) [] regions s.few (s.no_more large))

-- the policy as the last rule
abbrev pub policy_rule : (W : ℕ) → Verdict → SimpleRule W
policy_rule W policy = record { cube = whole_of W; accept = is_accept policy }

-- the loop over the rules
module _ {W : ℕ} (others : List (SimpleRule W)) (other : Verdict) (rules : List (SimpleRule W)) (policy : Verdict) where
  -- the search before the rule of this place
  abbrev pub ComparedTo : ℕ → List (Cube W) → Type 0
  ComparedTo i regions = Compared (with_policy others other) (with_policy rules policy) (with_policy (drop i rules) policy) regions

  module _ (i : ℕ) (regions : List (Cube W)) (rule : SimpleRule W) (h : i < length rules) (is : rule ≡ get_or rules i rule) (s : ComparedTo i regions) where
    at_rule : Compared (with_policy others other) (with_policy rules policy) (rule ∷ with_policy (drop (i + 1) rules) policy) regions
    at_rule = subst (λ l. Compared (with_policy others other) (with_policy rules policy) (with_policy l policy) regions) (drop_item rules i rule h is) s

    pub passed_at : (after : List (Cube W)) → AsksRule (with_policy others other) rule regions None → after ≡ without rule.cube regions → length after ≤ MOST_REGIONS → ComparedTo (i + 1) after
    passed_at = passed others other (with_policy rules policy) rule (with_policy (drop (i + 1) rules) policy) regions at_rule

    pub found_at : (p : Packet) → AsksRule (with_policy others other) rule regions (Some p) → Answers (with_policy others other) (with_policy rules policy) (Cover.Fails p)
    found_at = found others other (with_policy rules policy) rule (with_policy (drop (i + 1) rules) policy) regions at_rule

    pub asking_refused_at : (fault : RegionFault) → RefusesRule (with_policy others other) rule regions fault → RefusesSearch (with_policy others other) (with_policy rules policy) fault
    asking_refused_at = asking_refused others other (with_policy rules policy) rule (with_policy (drop (i + 1) rules) policy) regions at_rule

    pub leaving_refused_at : (fault : RegionFault) → AsksRule (with_policy others other) rule regions None → LeavesMany regions rule.cube fault →
        RefusesSearch (with_policy others other) (with_policy rules policy) fault
    leaving_refused_at = leaving_refused others other (with_policy rules policy) rule (with_policy (drop (i + 1) rules) policy) regions at_rule

  -- behind all rules
  module _ (i : ℕ) (regions : List (Cube W)) (past : length rules ≤ i) (s : ComparedTo i regions) where
    at_policy : Compared (with_policy others other) (with_policy rules policy) (policy_rule W policy ∷ []) regions
    at_policy = subst (λ l. Compared (with_policy others other) (with_policy rules policy) (with_policy l policy) regions) (drop_all i rules past) s

    pub policy_found : (p : Packet) → AsksRule (with_policy others other) (policy_rule W policy) regions (Some p) → Answers (with_policy others other) (with_policy rules policy) (Cover.Fails p)
    policy_found = found others other (with_policy rules policy) (policy_rule W policy) [] regions at_policy

    pub policy_refused : (fault : RegionFault) → RefusesRule (with_policy others other) (policy_rule W policy) regions fault →
        RefusesSearch (with_policy others other) (with_policy rules policy) fault
    policy_refused = asking_refused others other (with_policy rules policy) (policy_rule W policy) [] regions at_policy

    pub policy_passed : IsWidth W → AsksRule (with_policy others other) (policy_rule W policy) regions None → Answers (with_policy others other) (with_policy rules policy) Cover.Holds
    policy_passed width none =
        let few = without_whole W width regions s.states in
        let most = s.few in
        nothing_left others other (with_policy rules policy) (without (whole_of W) regions)
        (passed others other (with_policy rules policy) (policy_rule W policy) [] regions at_policy (without (whole_of W) regions) none refl (omega (arith, few, most)))
