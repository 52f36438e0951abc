-- Zones and a table of routes, as claims and hops give them.
use Rattle.std.specs.Prelude.{ℕ, ◌^◌, List, map}
use Rattle.std.specs.List.{AllByRecursion}
use Rattle.interval_set.specs.declared.set.Range.{Range}
use Rattle.interval_set.specs.Numbers.{has}
use Rattle.interval_set.specs.Spelling.{ranges_where}
use Rattle.primitives.specs.Ranges.{IsRange}
use Rattle.iface_space.specs.declared.hop.Hop.{Hop}
use Rattle.iface_space.specs.declared.zones.Zone.{Zone}
use Rattle.iface_space.specs.Routes.{PrefixesDiffer, cleared}
use Rattle.iface_space.specs.Zones.{AreApart, NamesDiffer}
use Rattle.request.specs.declared.types.Claim.{Claim}

-- `w` is the number of bits of an address
module _ (w : ℕ) where
  -- the set of some ranges
  abbrev pub set_of : List Range → List Range
  set_of ranges = ranges_where (has ranges) (2 ^ w)

  -- the interface of each claim with the set of the addresses behind it
  abbrev pub zone_of : Claim → Zone w
  zone_of claim = record { name = claim.name; inside = set_of claim.inside }

  abbrev pub zones_of : List Claim → List (Zone w)
  zones_of claims = map zone_of claims

  -- the hops with the bits past their lengths cleared
  abbrev pub routes_of : List Hop → List Hop
  routes_of hops = map (cleared w) hops

  -- the ranges of the claims are of addresses
  abbrev pub HaveRanges : List Claim → Type 0
  HaveRanges claims = AllByRecursion (λ claim. AllByRecursion (IsRange w) claim.inside) claims

  -- no two claims have one name, and no two a common address
  abbrev pub AreZones : List Claim → Type 0
  AreZones claims = NamesDiffer (zones_of claims) × AreApart (zones_of claims)

  -- no two hops have the same prefix
  abbrev pub HavePrefixes : List Hop → Type 0
  HavePrefixes hops = PrefixesDiffer (routes_of hops)
