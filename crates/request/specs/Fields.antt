-- The packet that is asked about, given by arguments `FIELD=VALUE`.
use Rattle.std.specs.Prelude.{ℕ, ◌≡◌, ◌≤◌, ◌==◌, Bool, false, true, List, [], ◌∷◌, Option, None, Some, IsTrue, codes, decimal, drop, if◌then◌else◌, is_some, length}
use Rattle.std.specs.List.{filter_map, list_all, list_any, starts_with}
use Rattle.addr_text.specs.Grammar.{IsIpv4, IsIpv6}
use Rattle.primitives.specs.declared.prim.Packet.{Packet}
use Rattle.primitives.specs.Tables.{number_in, state_names}
use Rattle.primitives.specs.Words.{SpellsFlags, SpellsProto}
use Rattle.request.specs.Names.{name_of}

-- an argument's value, where the argument begins with the field's name and `=`
abbrev pub value_after : List ℕ → List ℕ → Option (List ℕ)
value_after field argument = if starts_with (λ a b. a == b) argument field then Some (drop (length field) argument) else None

-- the values that the arguments give to a field
unfoldable pub values_of : List ℕ → List (List ℕ) → List (List ℕ)
values_of field arguments = filter_map (value_after field) arguments

-- two values or more
abbrev pub HasTwo : List (List ℕ) → Type 0
HasTwo values = (a b : List ℕ) × (more : List (List ℕ)) × (values ≡ a ∷ b ∷ more)

-- the fields' names, each with its `=`
abbrev pub field_names : List (List ℕ)
field_names = codes "in=" ∷ codes "out=" ∷ codes "src=" ∷ codes "dst=" ∷ codes "proto=" ∷ codes "sport=" ∷ codes "dport=" ∷ codes "flags="
    ∷ codes "state=" ∷ codes "icmp=" ∷ []

-- whether the argument gives a value to some field
unfoldable pub is_field : List ℕ → Bool
is_field argument = list_any (λ field. is_some (value_after field argument)) field_names

-- what a field is, by the values that are given to it: what the one value says, or the default where there is none; no field has two
abbrev pub Given : {A : Type 0} → (List ℕ → A → Type 0) → A → List (List ℕ) → A → Type 0
Given Says default [] x = x ≡ default
Given Says default (value ∷ []) x = Says value x
Given Says default (value ∷ other ∷ values) x = ⊥

abbrev pub SaysName : List ℕ → List ℕ → Type 0
SaysName value name = name_of value ≡ Some name

-- an address of the family, IPv6 where it is true
abbrev pub SaysAddress : Bool → List ℕ → ℕ → Type 0
SaysAddress false value address = IsIpv4 value address
SaysAddress true value address = IsIpv6 value address

abbrev pub SaysPort : List ℕ → ℕ → Type 0
SaysPort value port = (port ≤ 65535) × (value ≡ decimal port)

abbrev pub SaysState : List ℕ → ℕ → Type 0
SaysState value state = number_in state_names value ≡ Some state

abbrev pub SaysType : List ℕ → ℕ → Type 0
SaysType value icmp = (icmp ≤ 255) × (value ≡ decimal icmp)

-- The arguments are fields of this packet, no field twice. A missing name is empty, a missing state is NEW, which is 1, and any other missing field is 0.
pub record IsAsked (six : Bool) (arguments : List (List ℕ)) (p : Packet) : Type 0 where
  pub fields : IsTrue (list_all is_field arguments)
  pub in_name : Given SaysName [] (values_of (codes "in=") arguments) p.in_name
  pub out_name : Given SaysName [] (values_of (codes "out=") arguments) p.out_name
  pub src : Given (SaysAddress six) 0 (values_of (codes "src=") arguments) p.src
  pub dst : Given (SaysAddress six) 0 (values_of (codes "dst=") arguments) p.dst
  pub proto : Given SpellsProto 0 (values_of (codes "proto=") arguments) p.proto
  pub sport : Given SaysPort 0 (values_of (codes "sport=") arguments) p.sport
  pub dport : Given SaysPort 0 (values_of (codes "dport=") arguments) p.dport
  pub flags : Given SpellsFlags 0 (values_of (codes "flags=") arguments) p.flags
  pub state : Given SaysState 1 (values_of (codes "state=") arguments) p.state
  pub icmp : Given SaysType 0 (values_of (codes "icmp=") arguments) p.icmp
