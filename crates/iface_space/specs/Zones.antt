-- Zones: interfaces, each with the sources that live behind it.
use Rattle.std.specs.Prelude.{ℕ, ◌^◌, ◌<◌, ◌≡◌, Bool, true, ◌&&◌, List, Some, slice_get}
use Rattle.std.specs.List.{list_any}
use Rattle.interval_set.specs.declared.set.Range.{Range}
use Rattle.interval_set.specs.Numbers.{has}
use Rattle.interval_set.specs.Spelling.{ranges_where}
use Rattle.name_set.specs.declared.pattern.Pattern.{Pattern}
use Rattle.name_set.specs.Patterns.{fits}
use Rattle.primitives.specs.declared.prim.Packet.{Packet}
use Rattle.iface_space.specs.declared.zones.Zone.{Zone}
use Rattle.iface_space.specs.declared.zones.ZoneFault.{ZoneFault}
use Rattle.iface_space.specs.First.{IsFirst}

module _ {W : ℕ} where
  -- whether the address is in a zone whose name passes the test
  abbrev pub is_behind : List (Zone W) → (List ℕ → Bool) → ℕ → Bool
  is_behind zones named n = list_any (λ (z : Zone W). named z.name && has z.inside n) zones

  -- the addresses of the zones whose name passes the test
  abbrev pub sources_of : List (Zone W) → (List ℕ → Bool) → List Range
  sources_of zones named = ranges_where (is_behind zones named) (2 ^ W)

  -- whether the pattern matches the name of a zone
  abbrev pub has_zone_named : List (Zone W) → Pattern → Bool
  has_zone_named zones by = list_any (λ (z : Zone W). fits by z.name) zones

  -- a packet respects zones where its input interface is one whose zone holds its source
  abbrev pub Respects : List (Zone W) → Packet → Type 0
  Respects zones p = (i : ℕ) × (z : Zone W) × (slice_get zones i ≡ Some z) × (p.in_name ≡ z.name) × (has z.inside p.src ≡ true)

  module _ (zones : List (Zone W)) where
    -- zone `i` stands before zone `at`
    abbrev pub IsBefore : ℕ → ℕ → Zone W → Zone W → Type 0
    IsBefore i at a b = (i < at) × (slice_get zones i ≡ Some a) × (slice_get zones at ≡ Some b)

    -- an earlier zone has the same name
    abbrev pub HasEarlierName : ℕ → Type 0
    HasEarlierName at = (i : ℕ) × (a : Zone W) × (b : Zone W) × IsBefore i at a b × (a.name ≡ b.name)

    -- an earlier zone has an address in common
    abbrev pub HasEarlierAddress : ℕ → Type 0
    HasEarlierAddress at = (i : ℕ) × (a : Zone W) × (b : Zone W) × IsBefore i at a b × ((n : ℕ) × (has a.inside n ≡ true) × (has b.inside n ≡ true))

    -- no zone has an earlier one's name
    abbrev pub NamesDiffer : Type 0
    NamesDiffer = (at : ℕ) → HasEarlierName at → ⊥

    -- no zone has an address of an earlier one
    abbrev pub AreApart : Type 0
    AreApart = (at : ℕ) → HasEarlierAddress at → ⊥

    -- why zones are refused: for the first that has an earlier one's name; where names differ, for the first that has an
    -- earlier one's address. Want of memory tells nothing
    abbrev pub Refuses : ZoneFault → Type 0
    Refuses (ZoneFault.Repeated at) = IsFirst HasEarlierName at
    Refuses (ZoneFault.Overlap at) = NamesDiffer × IsFirst HasEarlierAddress at
    Refuses ZoneFault.Memory = Unit {0}
