-- Whether forged sources pass an interface.
use Rattle.std.specs.Prelude.{ℕ, ◌≡◌, ◌-◌, ◌^◌, ◌⊎◌, false, true, List, [], ◌∷◌, None, Some}
use Rattle.interval_set.specs.declared.set.Range.{Range}
use Rattle.interval_set.specs.Numbers.{has}
use Rattle.interval_set.specs.Spelling.{set_not}
use Rattle.name_set.specs.declared.pattern.Pattern.{Pattern}
use Rattle.primitives.specs.declared.prim.Packet.{Packet}
use Rattle.primitives.specs.declared.prim.Prim_.{Prim_}
use Rattle.primitives.specs.Holds.{IsValid, holds_of}
use Rattle.fw_rule.specs.declared.rule.Dump.{Dump}
use Rattle.fw_rule.specs.declared.rule.Verdict.{Verdict}
use Rattle.fw_rule.specs.Walk.{May}
use Rattle.box_norm.specs.declared.cube.Cube.{Cube}
use Rattle.box_norm.specs.declared.cube.SimpleRule.{SimpleRule}
use Rattle.box_norm.specs.Normal.{whole_of}
use Rattle.region_cut.specs.Search.{Finds, IsTooLarge, is_accepted, with_policy}
use Rattle.simple_filter.specs.Hidden.{hidden}
use Rattle.simple_filter.specs.declared.hiding.Hide.{Hide}
use Rattle.spoof_check.specs.declared.answers.Spoof.{Spoof}

-- the packet opens a connection, comes in by the interface of that name, and has a source that isn't among those inside
pub record IsForged (w : ℕ) (name : List ℕ) (inside : List Range) (p : Packet) : Type 0 where
  pub valid : IsValid w p
  pub named : p.in_name ≡ name
  pub opens : p.state ≡ 1
  pub outside : has inside p.src ≡ false

-- every number below 2 ^ w is inside
abbrev pub HasAll : ℕ → List Range → Type 0
HasAll w inside = inside ≡ record { lo = 0; hi = 2 ^ w - 1 } ∷ []

module _ {W : ℕ} where
  -- with the tests of output interfaces hidden, the packet may be accepted
  abbrev pub MayPass : Dump (Prim_ W) → ℕ → Packet → Type 0
  MayPass dump chain p = May holds_of (hidden Hide.OutNames dump) chain p

  -- no forged packet may pass, or this one is forged and may
  abbrev pub IsRight : Dump (Prim_ W) → ℕ → List ℕ → List Range → Spoof → Type 0
  IsRight dump chain name inside Spoof.Holds = (p : Packet) → IsForged W name inside p → MayPass dump chain p → ⊥
  IsRight dump chain name inside (Spoof.Violated p) = IsForged W name inside p × MayPass dump chain p

  -- no forged packet may be accepted by the dump with nothing hidden
  abbrev pub HoldsWhole : Dump (Prim_ W) → ℕ → List ℕ → List Range → Spoof → Type 0
  HoldsWhole dump chain name inside Spoof.Holds = (p : Packet) → IsForged W name inside p → May holds_of dump chain p → ⊥
  HoldsWhole dump chain name inside (Spoof.Violated p) = Unit {0}

  -- the region of forged packets: this name alone, the sources that aren't inside, the state NEW, and all else whole
  abbrev pub forged_region : List ℕ → List Range → Cube W
  forged_region name inside = record (whole_of W) {
    in_name = record { base = Pattern.Exact name; excluded = [] };
    src = set_not W inside;
    state = 2;
  }

  -- what some rules with their policy say of the forged packets: none is accepted, or this one is
  abbrev pub IsSaid : List (SimpleRule W) → Verdict → List ℕ → List Range → Spoof → Type 0
  IsSaid rules policy name inside Spoof.Holds = (p : Packet) → IsForged W name inside p → is_accepted rules policy p ≡ false
  IsSaid rules policy name inside (Spoof.Violated p) = IsForged W name inside p × (is_accepted rules policy p ≡ true)

  -- The verdict of the search of the region: nothing is searched where every address is inside, and the packet that is shown is the one that is found.
  abbrev pub IsSearched : List (SimpleRule W) → Verdict → List ℕ → List Range → Spoof → Type 0
  IsSearched rules policy name inside Spoof.Holds = HasAll W inside ⊎ Finds (forged_region name inside) (with_policy rules policy) None
  IsSearched rules policy name inside (Spoof.Violated p) = (HasAll W inside → ⊥) × Finds (forged_region name inside) (with_policy rules policy) (Some p)

  -- the search comes to more than 65,536 regions
  abbrev pub IsTooLong : List (SimpleRule W) → Verdict → List ℕ → List Range → Type 0
  IsTooLong rules policy name inside = (HasAll W inside → ⊥) × IsTooLarge (forged_region name inside) (with_policy rules policy)
