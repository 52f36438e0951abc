-- Routes: prefixes of destinations, each with the interface that it is sent out by.
use Rattle.std.specs.Prelude.{ℕ, ◌-◌, ◌*◌, ◌/◌, ◌^◌, ◌<◌, ◌≤◌, ◌≡◌, Bool, true, not, nat_lt, ◌&&◌, List, Some, slice_get}
use Rattle.std.specs.List.{list_any}
use Rattle.interval_set.specs.declared.set.Range.{Range}
use Rattle.interval_set.specs.Prefix.{in_prefix}
use Rattle.interval_set.specs.Spelling.{ranges_where}
use Rattle.name_set.specs.declared.pattern.Pattern.{Pattern}
use Rattle.name_set.specs.Patterns.{fits}
use Rattle.primitives.specs.declared.prim.Packet.{Packet}
use Rattle.iface_space.specs.declared.hop.Hop.{Hop}
use Rattle.iface_space.specs.declared.routes.RouteFault.{RouteFault}
use Rattle.iface_space.specs.First.{IsFirst}

-- w is the number of bits of an address
module _ (w : ℕ) where
  -- the hop with the bits of its value past its length cleared
  abbrev pub cleared : Hop → Hop
  cleared hop = record { value = hop.value / 2 ^ (w - hop.len) * 2 ^ (w - hop.len); len = hop.len; name = hop.name }

  -- the value is an address, and the length at most that of one
  pub record IsHop (hop : Hop) : Type 0 where
    pub value : hop.value < 2 ^ w
    pub len : hop.len ≤ w

  -- each is so
  abbrev pub AreHops : List Hop → Type 0
  AreHops hops = (i : ℕ) (hop : Hop) → slice_get hops i ≡ Some hop → IsHop hop

  -- and no bit past a length is set
  abbrev pub AreCleared : List Hop → Type 0
  AreCleared hops = (i : ℕ) (hop : Hop) → slice_get hops i ≡ Some hop → hop.value / 2 ^ (w - hop.len) * 2 ^ (w - hop.len) ≡ hop.value

  -- whether the prefix of the hop has the address
  abbrev pub holds : ℕ → Hop → Bool
  holds d hop = in_prefix w hop.value hop.len d

  -- whether one has it
  abbrev pub is_routed : List Hop → ℕ → Bool
  is_routed hops d = list_any (holds d) hops

  -- whether the hop's prefix has it, and no longer one does
  abbrev pub is_longest : List Hop → ℕ → Hop → Bool
  is_longest hops d hop = holds d hop && not (list_any (λ (other : Hop). holds d other && nat_lt hop.len other.len) hops)

  -- whether the name of such a one passes the test
  abbrev pub is_target : List Hop → (List ℕ → Bool) → ℕ → Bool
  is_target hops named d = list_any (λ (hop : Hop). named hop.name && is_longest hops d hop) hops

  -- the addresses for which it does
  abbrev pub targets_of : List Hop → (List ℕ → Bool) → List Range
  targets_of hops named = ranges_where (is_target hops named) (2 ^ w)

  -- the addresses that no prefix has
  abbrev pub unrouted_of : List Hop → List Range
  unrouted_of hops = ranges_where (λ d. not (is_routed hops d)) (2 ^ w)

  -- the next hop of an address: its prefix has it, and no longer one does
  pub record IsNext (hops : List Hop) (d : ℕ) (hop : Hop) : Type 0 where
    pub place : ℕ
    pub at : slice_get hops place ≡ Some hop
    pub has_it : holds d hop ≡ true
    pub longest : (j : ℕ) (other : Hop) → slice_get hops j ≡ Some other → holds d other ≡ true → other.len ≤ hop.len

  -- a packet respects routes where its destination has a next hop and its output interface has the name of this
  abbrev pub Respects : List Hop → Packet → Type 0
  Respects hops p = (hop : Hop) × IsNext hops p.dst hop × (p.out_name ≡ hop.name)

-- whether the pattern matches the name of a hop
abbrev pub has_hop_named : List Hop → Pattern → Bool
has_hop_named hops by = list_any (λ (hop : Hop). fits by hop.name) hops

-- an earlier hop has the same prefix
abbrev pub HasEarlierPrefix : List Hop → ℕ → Type 0
HasEarlierPrefix hops at = (i : ℕ) × (a : Hop) × (b : Hop) × (i < at) × (slice_get hops i ≡ Some a) × (slice_get hops at ≡ Some b)
    × (a.value ≡ b.value) × (a.len ≡ b.len)

-- no hop has an earlier one's prefix
abbrev pub PrefixesDiffer : List Hop → Type 0
PrefixesDiffer hops = (at : ℕ) → HasEarlierPrefix hops at → ⊥

-- why routes are refused: for the first that has an earlier one's prefix. Want of memory tells nothing
abbrev pub Refuses : List Hop → RouteFault → Type 0
Refuses hops (RouteFault.Repeated at) = IsFirst (HasEarlierPrefix hops) at
Refuses hops RouteFault.Memory = Unit {0}
