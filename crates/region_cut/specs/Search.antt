-- The search of some regions for a packet that rules accept.
use Rattle.std.specs.Prelude.{ℕ, ◌≡◌, ◌<◌, ◌⊎◌, Bool, true, false, List, [], ◌∷◌, ◌++◌, Option, None, Some, length, if◌then◌else◌, unwrap_or}
use Rattle.std.specs.List.{AllByRecursion}
use Rattle.limits.specs.declared.TheConstants.{MOST_REGIONS}
use Rattle.primitives.specs.declared.prim.Packet.{Packet}
use Rattle.primitives.specs.Holds.{IsValid}
use Rattle.fw_rule.specs.declared.rule.Verdict.{Verdict}
use Rattle.fw_rule.specs.Answers.{is_accept}
use Rattle.box_norm.specs.declared.cube.Cube.{Cube}
use Rattle.box_norm.specs.declared.cube.SimpleRule.{SimpleRule}
use Rattle.box_norm.specs.Cubes.{each_piece, holds_cube}
use Rattle.box_norm.specs.Normal.{first_of, whole_of}
use Rattle.box_norm.specs.Overlaps.{minus_of}
use Rattle.region_cut.specs.declared.fault.RegionFault.{RegionFault}
use Rattle.region_cut.specs.Least.{AreApart, IsHit}

module _ {W : ℕ} where
  -- the packet is accepted by the first rule whose cube has it, or by the policy where none has
  abbrev pub is_accepted : List (SimpleRule W) → Verdict → Packet → Bool
  is_accepted rules policy p = unwrap_or (first_of rules p) (is_accept policy)

  -- the policy as one last rule, of every packet
  abbrev pub with_policy : List (SimpleRule W) → Verdict → List (SimpleRule W)
  with_policy rules policy = rules ++ record { cube = whole_of W; accept = is_accept policy } ∷ []

  -- what a rule leaves of some regions: a dropping rule takes its cube off each of them, in pieces, and an accepting one
  -- leaves them as they are
  abbrev pub left_by : SimpleRule W → List (Cube W) → List (Cube W)
  left_by rule regions = if rule.accept then regions else each_piece (λ c. minus_of c rule.cube) regions

  -- the pieces without the cube are too many. Want of memory tells nothing
  abbrev pub LeavesMany : List (Cube W) → Cube W → RegionFault → Type 0
  LeavesMany regions cube RegionFault.Regions = MOST_REGIONS < length (each_piece (λ c. minus_of c cube) regions)
  LeavesMany regions cube RegionFault.Memory = Unit {0}

  -- no valid packet of the regions is in the cube
  abbrev pub AllApart : List (Cube W) → Cube W → Type 0
  AllApart regions cube = AllByRecursion (λ region. AreApart region cube) regions

  -- the packet is the least one of what the first region that shares a valid packet with the cube has in common with it
  abbrev pub IsFirstHit : List (Cube W) → Cube W → Packet → Type 0
  IsFirstHit [] cube p = ⊥
  IsFirstHit (region ∷ regions) cube p = IsHit region cube p ⊎ (AreApart region cube × IsFirstHit regions cube p)

  -- a rule finds nothing in the regions: it drops, or shares no valid packet with them
  abbrev pub FindsNothing : SimpleRule W → List (Cube W) → Type 0
  FindsNothing rule regions = rule.accept ≡ true → AllApart regions rule.cube

  -- The search of some regions, and what it answers: nothing where the rules are at their end, the packet that the first rule
  -- finds, or, where this one finds nothing, what the other rules find in the regions that it leaves.
  pub data Searches : List (SimpleRule W) → List (Cube W) → Option Packet → Type 0 where
    Past : {regions : List (Cube W)} → Searches [] regions None
    Here : {rule : SimpleRule W} {rules : List (SimpleRule W)} {regions : List (Cube W)} {p : Packet} →
        rule.accept ≡ true → IsFirstHit regions rule.cube p → Searches (rule ∷ rules) regions (Some p)
    Later : {rule : SimpleRule W} {rules : List (SimpleRule W)} {regions : List (Cube W)} {answer : Option Packet} →
        FindsNothing rule regions → Searches rules (left_by rule regions) answer → Searches (rule ∷ rules) regions answer

  -- Up to its answer the search comes to a list of more than so many regions: to this one, or, where the first rule finds
  -- nothing, behind it.
  pub data ComesToMore (most : ℕ) : List (SimpleRule W) → List (Cube W) → Type 0 where
    Now : {rules : List (SimpleRule W)} {regions : List (Cube W)} → most < length regions → ComesToMore most rules regions
    Then : {rule : SimpleRule W} {rules : List (SimpleRule W)} {regions : List (Cube W)} →
        FindsNothing rule regions → ComesToMore most rules (left_by rule regions) → ComesToMore most (rule ∷ rules) regions

  -- the search of a region comes to too many regions
  abbrev pub IsTooLarge : Cube W → List (SimpleRule W) → Type 0
  IsTooLarge region rules = ComesToMore MOST_REGIONS rules (region ∷ [])

  -- what the search of a region answers
  abbrev pub Finds : Cube W → List (SimpleRule W) → Option Packet → Type 0
  Finds region rules answer = Searches rules (region ∷ []) answer × (IsTooLarge region rules → ⊥)

  -- when the search has no answer. Want of memory tells nothing
  abbrev pub RefusesSearch : Cube W → List (SimpleRule W) → RegionFault → Type 0
  RefusesSearch region rules RegionFault.Regions = IsTooLarge region rules
  RefusesSearch region rules RegionFault.Memory = Unit {0}

  -- what an answer says of the region: no packet of it is accepted, or this one is
  abbrev pub Tells : Cube W → List (SimpleRule W) → Verdict → Option Packet → Type 0
  Tells region rules policy None = (p : Packet) → IsValid W p → holds_cube region p ≡ true → is_accepted rules policy p ≡ false
  Tells region rules policy (Some p) = IsValid W p × (holds_cube region p ≡ true) × (is_accepted rules policy p ≡ true)
