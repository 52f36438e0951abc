-- Which words spell which request.
use Rattle.std.specs.Prelude.{ℕ, ◌≡◌, ◌≢◌, ◌≤◌, List, [], ◌∷◌, Option, Some, None, Bool, true, false, not, unwrap_or, codes, decimal, if◌then◌else◌, option_map}
use Rattle.std.specs.List.{filter}
use Rattle.std.specs.Str.{bytes_eq}
use Rattle.clap.specs.Words.{Row, Text, Kinds, all_of, first_of}
use Rattle.primitives.specs.Holds.{IsValid}
use Rattle.fw_rule.specs.declared.side.Side.{Side}
use Rattle.service_packet.specs.declared.service.Service.{Service}
use Rattle.request.specs.CommandLine.{faults_in, rows_in}
use Rattle.iface_space.specs.declared.hop.Hop.{Hop}
use Rattle.iface_space.specs.Routes.{AreHops}
use Rattle.request.specs.Arguments.{AreClaims, IsService, IsSide, SpellRoutes, SpellZones, is_route}
use Rattle.request.specs.Spaces.{AreZones, HavePrefixes, HaveRanges}
use Rattle.request.specs.Fields.{IsAsked, SaysAddress}
use Rattle.request.specs.declared.types.Claim.{Claim}
use Rattle.request.specs.declared.types.Mode.{Mode}
use Rattle.request.specs.declared.types.Mode.TheVariants as mode
use Rattle.request.specs.declared.types.Request.{Request}

-- the bits of an address
abbrev pub width_of : Bool → ℕ
width_of false = 32
width_of true = 128

-- the parts of a command line that clap takes
pub record Parts : Type 0 where
  pub mode : Option Text
  pub args : List Text
  pub chain : Option Text
  pub family : Option Text
  pub side : Option Text

abbrev pub parts_of : List Row → Parts
parts_of rows = record {
  mode = first_of (codes "mode") rows;
  args = unwrap_or (all_of (codes "args") rows) [];
  chain = first_of (codes "chain") rows;
  family = first_of (codes "family") rows;
  side = first_of (codes "side") rows;
}

-- the word of a mode
abbrev pub word_of : Mode → Text
word_of mode.Check = codes "check"
word_of mode.Upper = codes "upper"
word_of mode.Lower = codes "lower"
word_of (mode.Matrix service side zones hops) = codes "matrix"
word_of (mode.Spoof claims) = codes "spoof"
word_of (mode.Explain p) = codes "explain"
word_of (mode.Load count) = codes "load"
word_of mode.Cover = codes "cover"
word_of (mode.Zones claims) = codes "zones"
word_of (mode.Routes hops) = codes "routes"

-- no arguments and no side
abbrev pub StandsAlone : Parts → Type 0
StandsAlone parts = (parts.args ≡ []) × (parts.side ≡ None)

-- the service, then routes and zones in any order, and the side
pub record AsksMatrix (six : Bool) (parts : Parts) (service : Service) (side : Side) (zones : List Claim) (hops : List Hop) : Type 0 where
  pub first : Text
  pub rest : List Text
  pub args_are : parts.args ≡ first ∷ rest
  pub service_is : IsService first service
  pub side_is : IsSide parts.side side
  pub zones_are : SpellZones (SaysAddress six) (width_of six) (filter (λ text. not (is_route text)) rest) zones
  pub routes_are : SpellRoutes (SaysAddress six) (width_of six) (filter is_route rest) hops

-- a number from 1 to 1000 alone, and no option
abbrev pub AsksLoad : Parts → ℕ → Type 0
AsksLoad parts count = (1 ≤ count) × (count ≤ 1000) × (parts.args ≡ decimal count ∷ []) × (parts.side ≡ None) × (parts.chain ≡ None)
    × (parts.family ≡ None)

-- what else a mode wants of the parts, over IPv6 addresses where the first argument is true and over IPv4 ones else
abbrev pub Suits : Bool → Parts → Mode → Type 0
Suits six parts mode.Check = StandsAlone parts
Suits six parts mode.Upper = StandsAlone parts
Suits six parts mode.Lower = StandsAlone parts
Suits six parts (mode.Matrix service side zones hops) = AsksMatrix six parts service side zones hops
Suits six parts (mode.Spoof claims) = (parts.side ≡ None) × (claims ≢ []) × AreClaims (SaysAddress six) (width_of six) parts.args claims
Suits six parts (mode.Load count) = AsksLoad parts count
Suits six parts mode.Cover = StandsAlone parts
Suits six parts (mode.Zones claims) = (parts.side ≡ None) × (claims ≢ []) × SpellZones (SaysAddress six) (width_of six) parts.args claims
Suits six parts (mode.Routes hops) = (parts.side ≡ None) × (hops ≢ []) × SpellRoutes (SaysAddress six) (width_of six) parts.args hops
Suits six parts (mode.Explain p) = (parts.side ≡ None) × IsAsked six parts.args p

-- whether addresses are IPv6 ones, by the family's text: IPv4 ones where none is given
abbrev pub six_of : Option Text → Option Bool
six_of None = Some false
six_of (Some text) = if bytes_eq text (codes "4") then Some false
    else if bytes_eq text (codes "6") then Some true
    else None

-- the name of the asked chain: FORWARD where none is given
abbrev pub chain_of : Parts → Text
chain_of parts = unwrap_or parts.chain (codes "FORWARD")

-- the parts are this request
pub record Asks (parts : Parts) (request : Request) : Type 0 where
  pub word : parts.mode ≡ Some (word_of request.mode)
  pub family : six_of parts.family ≡ Some request.six
  pub chain : request.chain ≡ chain_of parts
  pub rest : Suits request.six parts request.mode

-- the parts, where clap finds no fault
abbrev pub without_faults : Kinds → Parts → Option Parts
without_faults [] parts = Some parts
without_faults (k ∷ ks) parts = None

-- the parts of words that clap takes
unfoldable pub parts_in : List Text → Option Parts
parts_in words = without_faults (faults_in words) (parts_of (rows_in words))

-- the request of the words: clap takes them, and their parts are the request
unfoldable pub Spells : List Text → Request → Type 0
Spells words request = (parts : Parts) × (parts_in words ≡ Some parts) × Asks parts request

-- the words spell at most one request
abbrev pub SpellsOnce : List Text → Type 0
SpellsOnce words = (r s : Request) → Spells words r → Spells words s → r ≡ s

-- the name of the chain that words ask about, the empty one where clap finds a fault
abbrev pub chain_in : List Text → Text
chain_in words = unwrap_or (option_map chain_of (parts_in words)) []

-- zones and routes of addresses of w bits
pub record AreSpaces (w : ℕ) (zones : List Claim) (hops : List Hop) : Type 0 where
  pub ranges : HaveRanges w zones
  pub zones_are : AreZones w zones
  pub hops_are : AreHops w hops
  pub prefixes : HavePrefixes w hops

-- what the arguments of a mode are known to be: a packet, ranges, zones and routes of the family's addresses, and a number from 1 to 1000
abbrev pub HasBounds : Bool → Mode → Type 0
HasBounds six (mode.Explain p) = IsValid (width_of six) p
HasBounds six (mode.Spoof claims) = HaveRanges (width_of six) claims
HasBounds six (mode.Matrix service side zones hops) = AreSpaces (width_of six) zones hops
HasBounds six (mode.Zones claims) = HaveRanges (width_of six) claims × AreZones (width_of six) claims
HasBounds six (mode.Routes hops) = AreHops (width_of six) hops × HavePrefixes (width_of six) hops
HasBounds six (mode.Load count) = (1 ≤ count) × (count ≤ 1000)
HasBounds six m = Unit {0}
