-- The arguments of a matrix, of a check of sources and of a load.
use Rattle.std.specs.Prelude.{ℕ, ◌≡◌, ◌≢◌, ◌≤◌, ◌⊎◌, ◌==◌, Bool, List, [], ◌∷◌, ◌++◌, Option, None, Some, codes, decimal}
use Rattle.std.specs.List.{AllZip, starts_with}
use Rattle.interval_set.specs.declared.set.Range.{Range}
use Rattle.interval_set.specs.Prefix.{prefix_range}
use Rattle.addr_text.specs.Nets.{IsRangeText}
use Rattle.basics.specs.Parts.{Lacks, comma_parts}
use Rattle.primitives.specs.Words.{SpellsProto}
use Rattle.fw_rule.specs.declared.side.Side.{Side}
use Rattle.service_packet.specs.declared.service.Service.{Service}
use Rattle.request.specs.Fields.{SaysPort}
use Rattle.iface_space.specs.declared.hop.Hop.{Hop}
use Rattle.request.specs.Spaces.{AreZones, HavePrefixes}
use Rattle.request.specs.declared.types.Claim.{Claim}

-- PROTO:SPORT:DPORT, a protocol's name or number and two ports
abbrev pub IsService : List ℕ → Service → Type 0
IsService text service = (proto sport dport : List ℕ) × ((text ≡ proto ++ (58 ∷ (sport ++ (58 ∷ dport)))) × SpellsProto proto service.proto
    × SaysPort sport service.sport × SaysPort dport service.dport)

-- `upper` or `lower`, and upper where neither is given
abbrev pub IsSide : Option (List ℕ) → Side → Type 0
IsSide None side = side ≡ Side.Upper
IsSide (Some text) Side.Upper = text ≡ codes "upper"
IsSide (Some text) Side.Lower = text ≡ codes "lower"

-- `Reads` says which text is one of which address of `W` bits
module _ (Reads : List ℕ → ℕ → Type 0) (W : ℕ) where
  -- an address alone
  abbrev pub IsAlone : List ℕ → Range → Type 0
  IsAlone text r = (address : ℕ) × (Reads text address × (r ≡ record { lo = address; hi = address }))

  -- ADDRESS/LENGTH. The length is a number and no mask
  abbrev pub IsPrefixOf : List ℕ → ℕ → ℕ → Type 0
  IsPrefixOf text address len = (front : List ℕ) × ((text ≡ front ++ (codes "/" ++ decimal len)) × Reads front address × (len ≤ W))

  -- the addresses that agree with this one in so many bits
  abbrev pub IsPrefixText : List ℕ → Range → Type 0
  IsPrefixText text r = (address len : ℕ) × IsPrefixOf text address len × (r ≡ prefix_range W address len)

  -- a part of a set: an address, a prefix, or FIRST-LAST
  abbrev pub IsPart : List ℕ → Range → Type 0
  IsPart text r = IsAlone text r ⊎ (IsPrefixText text r ⊎ IsRangeText Reads text r)

  -- NAME=SET: the name up to the last `=`, which isn't empty and is taken as it stands, and parts with commas between them, each the range beside it
  pub record IsClaim (text : List ℕ) (claim : Claim) : Type 0 where
    pub set : List ℕ
    pub parted : text ≡ claim.name ++ (61 ∷ set)
    pub last : Lacks 61 set
    pub named : claim.name ≢ []
    pub parts : AllZip IsPart (comma_parts set) claim.inside

  -- each text is the claim beside it
  abbrev pub AreClaims : List (List ℕ) → List Claim → Type 0
  AreClaims texts claims = AllZip IsClaim texts claims

  -- ADDRESS/LENGTH, or an address alone, of which all bits count
  abbrev pub IsNet : List ℕ → ℕ → ℕ → Type 0
  IsNet text address len = IsPrefixOf text address len ⊎ (Reads text address × (len ≡ W))

  -- via:NET=NAME: the net up to the first `=`, and the name, which isn't empty and is taken as it stands
  pub record IsRoute (text : List ℕ) (hop : Hop) : Type 0 where
    pub net : List ℕ
    pub parted : text ≡ codes "via:" ++ (net ++ (61 ∷ hop.name))
    pub first : Lacks 61 net
    pub named : hop.name ≢ []
    pub is_net : IsNet net hop.value hop.len

  -- each text is the claim beside it, and no two of them have one name or a common address
  abbrev pub SpellZones : List (List ℕ) → List Claim → Type 0
  SpellZones texts claims = AreClaims texts claims × AreZones W claims

  -- each text is the route beside it, and no two of them have the same prefix
  abbrev pub SpellRoutes : List (List ℕ) → List Hop → Type 0
  SpellRoutes texts hops = AllZip IsRoute texts hops × HavePrefixes W hops

-- whether an argument is a route
abbrev pub is_route : List ℕ → Bool
is_route text = starts_with (λ a b. a == b) text (codes "via:")
