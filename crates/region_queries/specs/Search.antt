-- The search of what some rules accept for a packet that other rules drop.
use Rattle.std.specs.Prelude.{ℕ, ◌≡◌, ◌<◌, ◌⊎◌, true, not, List, [], ◌∷◌, None, Some, IfSome, IsSomeAnd, length, map}
use Rattle.std.specs.List.{AllByRecursion}
use Rattle.limits.specs.declared.TheConstants.{MOST_REGIONS}
use Rattle.primitives.specs.declared.prim.Packet.{Packet}
use Rattle.fw_rule.specs.declared.rule.Verdict.{Verdict}
use Rattle.box_norm.specs.declared.cube.Cube.{Cube}
use Rattle.box_norm.specs.declared.cube.SimpleRule.{SimpleRule}
use Rattle.box_norm.specs.Cubes.{each_piece}
use Rattle.box_norm.specs.Normal.{whole_of}
use Rattle.box_norm.specs.Overlaps.{and_of, minus_of}
use Rattle.region_cut.specs.Search.{ComesToMore, Searches, with_policy}
use Rattle.region_queries.specs.declared.answers.Cover.{Cover}

-- the verdict turned over
abbrev pub turned_policy : Verdict → Verdict
turned_policy Verdict.Accept = Verdict.Drop
turned_policy Verdict.Drop = Verdict.Accept

module _ {W : ℕ} where
  -- the rule with its verdict turned over
  abbrev pub turned : SimpleRule W → SimpleRule W
  turned rule = record rule { accept = not rule.accept }

  -- the rules and their policy, each verdict turned over: they accept what is dropped
  abbrev pub flipped : List (SimpleRule W) → Verdict → List (SimpleRule W)
  flipped rules policy = with_policy (map turned rules) (turned_policy policy)

  -- the regions, each with the cube taken off
  abbrev pub without : Cube W → List (Cube W) → List (Cube W)
  without cube regions = each_piece (λ region. minus_of region cube) regions

  -- the flipped rules accept nothing of what the region and the cube have in common, as the search of it tells
  abbrev pub PassesOver : List (SimpleRule W) → Cube W → Cube W → Type 0
  PassesOver against region cube = IfSome (and_of region cube) (λ common. Searches against (common ∷ []) None)

  -- the search of what the region and the cube have in common answers this packet
  abbrev pub FindsIn : List (SimpleRule W) → Cube W → Cube W → Packet → Type 0
  FindsIn against region cube p = IsSomeAnd (and_of region cube) (λ common. Searches against (common ∷ []) (Some p))

  -- up to its answer that search comes to a list of more than so many regions
  abbrev pub GrowsIn : ℕ → List (SimpleRule W) → Cube W → Cube W → Type 0
  GrowsIn most against region cube = IsSomeAnd (and_of region cube) (λ common. ComesToMore most against (common ∷ []))

  -- each of the regions is passed over
  abbrev pub PassesAll : List (SimpleRule W) → List (Cube W) → Cube W → Type 0
  PassesAll against regions cube = AllByRecursion (λ region. PassesOver against region cube) regions

  -- the packet is that of the first region that isn't passed over
  abbrev pub FindsFirst : List (SimpleRule W) → List (Cube W) → Cube W → Packet → Type 0
  FindsFirst against [] cube p = ⊥
  FindsFirst against (region ∷ regions) cube p =
      FindsIn against region cube p ⊎ (PassesOver against region cube × FindsFirst against regions cube p)

  -- up to the first packet that is found, the search in one of the regions comes to more than so many
  abbrev pub GrowsFirst : ℕ → List (SimpleRule W) → List (Cube W) → Cube W → Type 0
  GrowsFirst most against [] cube = ⊥
  GrowsFirst most against (region ∷ regions) cube =
      GrowsIn most against region cube ⊎ (PassesOver against region cube × GrowsFirst most against regions cube)

  -- a rule finds nothing in the regions: it drops, or each of them is passed over
  abbrev pub FindsNothing : List (SimpleRule W) → SimpleRule W → List (Cube W) → Type 0
  FindsNothing against rule regions = rule.accept ≡ true → PassesAll against regions rule.cube

  -- The search of some regions, and what it answers: that all is covered where the rules are at their end, the packet that the
  -- first rule finds, or, where this one finds nothing, what the other rules find in the regions without its cube.
  pub data Compares (against : List (SimpleRule W)) : List (SimpleRule W) → List (Cube W) → Cover → Type 0 where
    AtEnd : {regions : List (Cube W)} → Compares against [] regions Cover.Holds
    Found : {rule : SimpleRule W} {rules : List (SimpleRule W)} {regions : List (Cube W)} {p : Packet} →
        rule.accept ≡ true → FindsFirst against regions rule.cube p → Compares against (rule ∷ rules) regions (Cover.Fails p)
    Passed : {rule : SimpleRule W} {rules : List (SimpleRule W)} {regions : List (Cube W)} {answer : Cover} →
        FindsNothing against rule regions → Compares against rules (without rule.cube regions) answer →
        Compares against (rule ∷ rules) regions answer

  -- Up to its answer the search comes to a list of more than so many regions: to this one, to one in a search that the first
  -- rule asks for, or, where that rule finds nothing, to one behind it.
  pub data Grows (most : ℕ) (against : List (SimpleRule W)) : List (SimpleRule W) → List (Cube W) → Type 0 where
    Here : {rules : List (SimpleRule W)} {regions : List (Cube W)} → most < length regions → Grows most against rules regions
    Inside : {rule : SimpleRule W} {rules : List (SimpleRule W)} {regions : List (Cube W)} →
        rule.accept ≡ true → GrowsFirst most against regions rule.cube → Grows most against (rule ∷ rules) regions
    Behind : {rule : SimpleRule W} {rules : List (SimpleRule W)} {regions : List (Cube W)} →
        FindsNothing against rule regions → Grows most against rules (without rule.cube regions) →
        Grows most against (rule ∷ rules) regions

  -- the search of all packets comes to too many regions
  abbrev pub IsTooLarge : List (SimpleRule W) → List (SimpleRule W) → Type 0
  IsTooLarge against rules = Grows MOST_REGIONS against rules (whole_of W ∷ [])

  -- what the search of all packets answers
  abbrev pub Answers : List (SimpleRule W) → List (SimpleRule W) → Cover → Type 0
  Answers against rules answer = Compares against rules (whole_of W ∷ []) answer × (IsTooLarge against rules → ⊥)
