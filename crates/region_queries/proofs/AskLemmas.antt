-- What the search in several regions answers, from what it answers in each.
use Rattle.std.proofs.Common.{◌≡◌, ◌<◌, ℕ, ◌+◌, List, [], ◌∷◌, Option, None, Some, IfSome, IsSomeAnd, inl, inr, sym, subst, ◌∙◌, true≢false, length, get_or, drop}
use Rattle.limits.specs.declared.TheConstants.{MOST_REGIONS}
use Rattle.primitives.specs.declared.prim.Packet.{Packet}
use Rattle.fw_rule.specs.declared.rule.Verdict.{Verdict}
use Rattle.box_norm.specs.declared.cube.Cube.{Cube}
use Rattle.box_norm.specs.declared.cube.SimpleRule.{SimpleRule}
use Rattle.box_norm.specs.Overlaps.{and_of}
use Rattle.region_cut.specs.declared.fault.RegionFault.{RegionFault}
use Rattle.region_cut.specs.Search.{ComesToMore, Finds, RefusesSearch, Searches, with_policy}
use Rattle.region_cut.proofs.Items.{drop_item}
use Rattle.region_cut.proofs.PacketLaws.{searches_tell}
use Rattle.region_queries.specs.Search.{FindsFirst, GrowsFirst, PassesAll}
use Rattle.region_queries.specs.inner.Asking.{AsksAll, AsksOne, RefusesOne}

module _ {W : ℕ} (others : List (SimpleRule W)) (policy : Verdict) where
  abbrev against : List (SimpleRule W)
  against = with_policy others policy

  -- one region, by what it has in common with the cube
  abbrev Asks : Option (Cube W) → Option Packet → Type 0
  Asks common None = IfSome common (λ c. Searches against (c ∷ []) None) × (IsSomeAnd common (λ c. ComesToMore MOST_REGIONS against (c ∷ [])) → ⊥)
  Asks common (Some p) = IsSomeAnd common (λ c. Searches against (c ∷ []) (Some p)) × (IsSomeAnd common (λ c. ComesToMore MOST_REGIONS against (c ∷ [])) → ⊥)

  as_asked : (region cube : Cube W) (o : Option Packet) → Asks (and_of region cube) o → AsksOne against region cube o
  as_asked region cube None a = a
  as_asked region cube (Some p) a = a

  as_found : (c : Cube W) (o : Option Packet) → Finds c against o → Asks (Some c) o
  as_found c None f = f
  as_found c (Some p) f = f

  pub nothing_common : (region cube : Cube W) → and_of region cube ≡ None → AsksOne against region cube None
  nothing_common region cube is = as_asked region cube None (subst (λ o. Asks o None) (sym is) (tt, λ grows. grows))

  pub common_asked : (region cube common : Cube W) → and_of region cube ≡ Some common → (o : Option Packet) → Finds common against o → AsksOne against region cube o
  common_asked region cube common is o found = as_asked region cube o (subst (λ c. Asks c o) (sym is) (as_found common o found))

  pub common_refused : (region cube common : Cube W) → and_of region cube ≡ Some common → (fault : RegionFault) → RefusesSearch common against fault → RefusesOne against region cube fault
  common_refused region cube common is RegionFault.Regions more = subst (λ o. IsSomeAnd o (λ c. ComesToMore MOST_REGIONS against (c ∷ []))) (sym is) more
  common_refused region cube common is RegionFault.Memory more = tt

  -- a search answers one way alone
  clash : (common : Option (Cube W)) (p : Packet) → IfSome common (λ c. Searches against (c ∷ []) None) → IsSomeAnd common (λ c. Searches against (c ∷ []) (Some p)) → ⊥
  clash None p none some = some
  clash (Some c) p none some =
      let told = searches_tell c others policy (Some p) some in
      true≢false (sym told.2 ∙ searches_tell c others policy None none p told.0 told.1)

  pub none_found : (regions : List (Cube W)) (cube : Cube W) (p : Packet) → PassesAll against regions cube → FindsFirst against regions cube p → ⊥
  none_found [] cube p none some = some
  none_found (region ∷ regions) cube p none some = elim some [
    | inl here ↦ clash (and_of region cube) p none.0 here
    | inr later ↦ none_found regions cube p none.1 later.1
  ]

  -- what the regions from this place on answer, all do
  pub record AskedTo (regions : List (Cube W)) (cube : Cube W) (i : ℕ) : Type 0 where
    pub passes : PassesAll against (drop i regions) cube → PassesAll against regions cube
    pub finds : (p : Packet) → FindsFirst against (drop i regions) cube p → FindsFirst against regions cube p
    pub grows : GrowsFirst MOST_REGIONS against (drop i regions) cube → GrowsFirst MOST_REGIONS against regions cube
    pub grown : GrowsFirst MOST_REGIONS against regions cube → GrowsFirst MOST_REGIONS against (drop i regions) cube

  found_grows : (region : Cube W) (regions : List (Cube W)) (cube : Cube W) (p : Packet) → AsksOne against region cube (Some p) → GrowsFirst MOST_REGIONS against (region ∷ regions) cube → ⊥
  found_grows region regions cube p found grows = elim grows [
    | inl here ↦ found.1 here
    | inr later ↦ clash (and_of region cube) p later.0 found.0
  ]

  module _ (regions : List (Cube W)) (cube : Cube W) (i : ℕ) (region : Cube W) (h : i < length regions) (is : region ≡ get_or regions i region) (s : AskedTo regions cube i) where
    abbrev from_here : drop i regions ≡ region ∷ drop (i + 1) regions
    from_here = drop_item regions i region h is

    pub one_found : (p : Packet) → AsksOne against region cube (Some p) → AsksAll against regions cube (Some p)
    one_found p found = (
      s.finds p (subst (λ l. FindsFirst against l cube p) (sym from_here) (inl found.0)),
      λ grows. found_grows region (drop (i + 1) regions) cube p found (subst (λ l. GrowsFirst MOST_REGIONS against l cube) from_here (s.grown grows)),
    )
