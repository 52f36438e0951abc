-- The state of the search: the rules that are left, and the regions that they are to search.
use Rattle.std.proofs.Common.{◌≡◌, ◌<◌, ◌≤◌, ◌⊎◌, ℕ, ◌+◌, List, [], ◌∷◌, Bool, true, false, Option, None, Some, refl, inl, inr, ap, subst, arith, length, get_or, drop}
use Rattle.std.specs.Prelude.{if◌then◌else◌}
use Rattle.std.specs.List.{AllByRecursion}
use Rattle.std.proofs.lemmas.List.{drop_all}
use Rattle.basics.proofs.Lists.{each_append, each_weaker}
use Rattle.limits.specs.declared.TheConstants.{MOST_REGIONS}
use Rattle.interval_set.specs.Numbers.{IsWidth}
use Rattle.primitives.specs.declared.prim.Packet.{Packet}
use Rattle.fw_rule.specs.declared.rule.Verdict.{Verdict}
use Rattle.box_norm.specs.declared.cube.Cube.{Cube}
use Rattle.box_norm.specs.declared.cube.SimpleRule.{SimpleRule}
use Rattle.box_norm.specs.Cubes.{each_piece}
use Rattle.box_norm.specs.Normal.{whole_of}
use Rattle.box_norm.specs.Overlaps.{minus_of}
use Rattle.box_norm.specs.Regular.{HasStates}
use Rattle.box_norm.proofs.StateLaws.{minus_states}
use Rattle.region_cut.specs.declared.fault.RegionFault.{RegionFault}
use Rattle.region_cut.specs.Search.{AllApart, ComesToMore, Finds, FindsNothing, Here, IsFirstHit, IsTooLarge, Later, LeavesMany, Now, Past, RefusesSearch, Searches, Then, left_by, with_policy}
use Rattle.region_cut.specs.Least.{AreApart}
use Rattle.region_cut.specs.inner.Hits.{HitsFirst}
use Rattle.region_cut.specs.inner.Misses.{Misses}
use Rattle.region_cut.proofs.Items.{drop_item}
use Rattle.region_cut.proofs.LeastLaws.{apart_none}
use Rattle.region_cut.proofs.PacketLaws.{no_hit}
use Rattle.region_cut.proofs.UnderLaws.{IsUnder, each_missed, missed_none, missed_stay, pieces_under, under_self}
use Rattle.region_cut.proofs.WholeLaws.{without_whole}

-- where the regions here aren't more than so many, the search comes to more behind the first rule
abbrev Behind : {W : ℕ} → List (SimpleRule W) → List (Cube W) → Type 0
Behind [] regions = ⊥
Behind (rule ∷ rules) regions = FindsNothing rule regions × ComesToMore MOST_REGIONS rules (left_by rule regions)

now_or_behind : {W : ℕ} (rules : List (SimpleRule W)) (regions : List (Cube W)) → ComesToMore MOST_REGIONS rules regions → (MOST_REGIONS < length regions) ⊎ Behind rules regions
now_or_behind rules regions (Now m) = inl m
now_or_behind rules regions (Then f c) = inr (f, c)

behind : {W : ℕ} (rules : List (SimpleRule W)) (regions : List (Cube W)) → length regions ≤ MOST_REGIONS → ComesToMore MOST_REGIONS rules regions → Behind rules regions
behind rules regions few more = elim (now_or_behind rules regions more) [
  | inl many ↦ absurd (omega (arith, few, many))
  | inr later ↦ later
]

-- The search of the region by all rules goes on as that of these regions by the rules that are left.
pub record Searched {W : ℕ} (region : Cube W) (rules left : List (SimpleRule W)) (regions : List (Cube W)) : Type 0 where
  pub answers : (o : Option Packet) → Searches left regions o → Searches rules (region ∷ []) o
  pub more : ComesToMore MOST_REGIONS left regions → IsTooLarge region rules
  pub no_more : IsTooLarge region rules → ComesToMore MOST_REGIONS left regions
  pub few : length regions ≤ MOST_REGIONS
  pub states : AllByRecursion HasStates regions
  pub under : AllByRecursion (IsUnder region) regions

pub each_states : {W : ℕ} (cube : Cube W) (regions : List (Cube W)) → AllByRecursion HasStates regions → AllByRecursion HasStates (each_piece (λ c. minus_of c cube) regions)
each_states cube [] h = tt
each_states cube (c ∷ cs) h = each_append HasStates (minus_of c cube) (each_piece (λ d. minus_of d cube) cs) (minus_states c cube h.0) (each_states cube cs h.1)

left_states : {W : ℕ} (b : Bool) (cube : Cube W) (regions : List (Cube W)) → AllByRecursion HasStates regions →
    AllByRecursion HasStates (if b then regions else each_piece (λ c. minus_of c cube) regions)
left_states true cube regions h = h
left_states false cube regions h = each_states cube regions h

left_under : {W : ℕ} (b : Bool) (region cube : Cube W) (regions : List (Cube W)) → AllByRecursion (IsUnder region) regions →
    AllByRecursion (IsUnder region) (if b then regions else each_piece (λ c. minus_of c cube) regions)
left_under true region cube regions h = h
left_under false region cube regions h = pieces_under region cube regions h

left_missed : {W : ℕ} (b : Bool) (cube : Cube W) (regions : List (Cube W)) → AllByRecursion (λ c. Misses c cube) regions →
    (if b then regions else each_piece (λ c. minus_of c cube) regions) ≡ regions
left_missed true cube regions h = refl
left_missed false cube regions h = missed_stay cube regions h

-- one rule on
module _ {W : ℕ} (region : Cube W) (rules : List (SimpleRule W)) (rule : SimpleRule W) (left : List (SimpleRule W)) (regions : List (Cube W))
    (s : Searched region rules (rule ∷ left) regions) where
  next : FindsNothing rule regions → length (left_by rule regions) ≤ MOST_REGIONS → Searched region rules left (left_by rule regions)
  next f few = record {
    answers = λ o h. s.answers o (Later f h);
    more = λ c. s.more (Then f c);
    no_more = λ c. (behind (rule ∷ left) regions s.few (s.no_more c)).1;
    few = few;
    states = left_states rule.accept rule.cube regions s.states;
    under = left_under rule.accept region rule.cube regions s.under;
  }

  pub skipped : rule.accept ≡ true → AllApart regions rule.cube → Searched region rules left regions
  skipped a apart =
      let same : left_by rule regions ≡ regions = ap (λ b. if b then regions else each_piece (λ c. minus_of c rule.cube) regions) a in
      subst (Searched region rules left) same (next (λ _. apart) (omega (arith, ap length same, s.few)))

  pub passed : AllByRecursion (λ c. Misses c rule.cube) regions → Searched region rules left regions
  passed missed =
      let same = left_missed rule.accept rule.cube regions missed in
      let apart : AllApart regions rule.cube = each_weaker (λ c. Misses c rule.cube) (λ c. AreApart c rule.cube) (λ c m. apart_none c rule.cube (missed_none c rule.cube m)) regions missed in
      subst (Searched region rules left) same (next (λ _. apart) (omega (arith, ap length same, s.few)))

  dropped_is : rule.accept ≡ false → left_by rule regions ≡ each_piece (λ c. minus_of c rule.cube) regions
  dropped_is a = ap (λ b. if b then regions else each_piece (λ c. minus_of c rule.cube) regions) a

  drops : rule.accept ≡ false → FindsNothing rule regions
  drops a b = absurd (cc (a, b))

  pub dropped : (after : List (Cube W)) → rule.accept ≡ false → after ≡ each_piece (λ c. minus_of c rule.cube) regions → length after ≤ MOST_REGIONS → Searched region rules left after
  dropped after a is few =
      let same : left_by rule regions ≡ after = rw is (dropped_is a) in
      subst (Searched region rules left) same (next (drops a) (omega (arith, ap length same, few)))

  pub found_here : (p : Packet) → rule.accept ≡ true → IsFirstHit regions rule.cube p → Finds region rules (Some p)
  found_here p a hit = (s.answers (Some p) (Here a hit), λ large. no_hit regions rule.cube p ((behind (rule ∷ left) regions s.few (s.no_more large)).0 a) hit)

  pub too_large : (fault : RegionFault) → rule.accept ≡ false → LeavesMany regions rule.cube fault → RefusesSearch region rules fault
  too_large RegionFault.Regions a many = s.more (Then (drops a) (Now (omega (arith, ap length (dropped_is a), many))))
  too_large RegionFault.Memory a many = tt

-- at the end
found_none : {W : ℕ} (region : Cube W) (rules : List (SimpleRule W)) (regions : List (Cube W)) → Searched region rules [] regions → Finds region rules None
found_none region rules regions s = (s.answers None Past, λ large. behind [] regions s.few (s.no_more large))

-- the policy as the last rule
abbrev policy_rule : (W : ℕ) → Bool → SimpleRule W
policy_rule W accept = record { cube = whole_of W; accept = accept }

pub accepted_by_policy : {W : ℕ} (region : Cube W) (rules : List (SimpleRule W)) (regions : List (Cube W)) → Searched region rules (policy_rule W true ∷ []) regions → (o : Option Packet) →
    HitsFirst regions (whole_of W) o → Finds region rules o
accepted_by_policy {W} region rules regions s None apart = found_none region rules regions (skipped region rules (policy_rule W true) [] regions s refl apart)
accepted_by_policy {W} region rules regions s (Some p) hit = found_here region rules (policy_rule W true) [] regions s p refl hit

pub dropped_by_policy : {W : ℕ} (region : Cube W) (rules : List (SimpleRule W)) (regions : List (Cube W)) → IsWidth W → Searched region rules (policy_rule W false ∷ []) regions →
    Finds region rules None
dropped_by_policy {W} region rules regions w s =
    let few = without_whole W w regions s.states in
    let most = s.few in
    found_none region rules (each_piece (λ c. minus_of c (whole_of W)) regions)
    (dropped region rules (policy_rule W false) [] regions s (each_piece (λ c. minus_of c (whole_of W)) regions) refl refl (omega (arith, few, most)))

-- the loop over the rules
module _ {W : ℕ} (region : Cube W) (rules : List (SimpleRule W)) (policy : Verdict) where
  -- the search before the rule of this place
  abbrev pub SearchedTo : ℕ → List (Cube W) → Type 0
  SearchedTo i regions = Searched region (with_policy rules policy) (with_policy (drop i rules) policy) regions

  pub search_begins : HasStates region → SearchedTo 0 (region ∷ [])
  search_begins states = record {
    answers = λ o h. h;
    more = λ c. c;
    no_more = λ c. c;
    few = omega arith;
    states = (states, tt);
    under = (under_self region, tt);
  }

  pub searched_all : (i : ℕ) (regions : List (Cube W)) → length rules ≤ i → SearchedTo i regions → Searched region (with_policy rules policy) (with_policy [] policy) regions
  searched_all i regions past s = subst (λ l. Searched region (with_policy rules policy) (with_policy l policy) regions) (drop_all i rules past) s

  module _ (i : ℕ) (regions : List (Cube W)) (rule : SimpleRule W) (h : i < length rules) (is : rule ≡ get_or rules i rule) (s : SearchedTo i regions) where
    at_rule : Searched region (with_policy rules policy) (rule ∷ with_policy (drop (i + 1) rules) policy) regions
    at_rule = subst (λ l. Searched region (with_policy rules policy) (with_policy l policy) regions) (drop_item rules i rule h is) s

    pub found_at : (p : Packet) → rule.accept ≡ true → IsFirstHit regions rule.cube p → Finds region (with_policy rules policy) (Some p)
    found_at = found_here region (with_policy rules policy) rule (with_policy (drop (i + 1) rules) policy) regions at_rule

    pub too_large_at : (fault : RegionFault) → rule.accept ≡ false → LeavesMany regions rule.cube fault → RefusesSearch region (with_policy rules policy) fault
    too_large_at = too_large region (with_policy rules policy) rule (with_policy (drop (i + 1) rules) policy) regions at_rule

    pub passed_at : AllByRecursion (λ c. Misses c rule.cube) regions → SearchedTo (i + 1) regions
    passed_at = passed region (with_policy rules policy) rule (with_policy (drop (i + 1) rules) policy) regions at_rule

    pub missed_at : Misses region rule.cube → SearchedTo (i + 1) regions
    missed_at m = passed_at (each_missed region rule.cube regions s.under m)

    pub skipped_at : rule.accept ≡ true → AllApart regions rule.cube → SearchedTo (i + 1) regions
    skipped_at = skipped region (with_policy rules policy) rule (with_policy (drop (i + 1) rules) policy) regions at_rule

    pub dropped_at : (after : List (Cube W)) → rule.accept ≡ false → after ≡ each_piece (λ c. minus_of c rule.cube) regions → length after ≤ MOST_REGIONS → SearchedTo (i + 1) after
    dropped_at = dropped region (with_policy rules policy) rule (with_policy (drop (i + 1) rules) policy) regions at_rule
