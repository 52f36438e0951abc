-- Words spell one request at most.
use Rattle.std.proofs.Common.{◌≡◌, ◌∙◌, ℕ, List, [], ◌∷◌, Bool, true, false, not, Some, refl, sym, ap, subst, arith, codes, decimal}
use Rattle.std.specs.List.{AllZip, filter}
use Rattle.std.specs.Prelude.{if◌then◌else◌}
use Rattle.std.specs.Str.{bytes_eq}
use Rattle.std.proofs.lemmas.Fmt.{decimal_injective}
use Rattle.addr_text.specs.Ipv4Laws.{ipv4_one}
use Rattle.addr_text.specs.Ipv6Laws.{ipv6_one}
use Rattle.fw_rule.specs.declared.side.Side.{Side}
use Rattle.primitives.specs.declared.prim.Packet.{Packet}
use Rattle.primitives.specs.Words.{SpellsFlags, SpellsProto}
use Rattle.clap.specs.Words.{Text}
use Rattle.service_packet.specs.declared.service.Service.{Service}
use Rattle.iface_space.specs.declared.hop.Hop.{Hop}
use Rattle.request.specs.declared.types.Claim.{Claim}
use Rattle.request.specs.declared.types.Mode.{Mode}
use Rattle.request.specs.declared.types.Mode.TheVariants as mode
use Rattle.request.specs.declared.types.Request.{Request}
use Rattle.request.specs.Arguments.{AreClaims, IsRoute, IsService, is_route}
use Rattle.request.specs.Fields.{Given, IsAsked, SaysAddress, SaysName, SaysPort, SaysState, SaysType}
use Rattle.request.specs.Requests.{Asks, AsksLoad, AsksMatrix, Parts, Spells, Suits, width_of, word_of}
use Rattle.request.proofs.ClaimLemmas.{claims_once}
use Rattle.request.proofs.RouteLemmas.{hops_once}
use Rattle.request.proofs.ServiceLemmas.{port_once, service_once, side_once}
use Rattle.primitives.proofs.WordLemmas.{flags_once, proto_once}

-- a value says one thing
abbrev Once : {A : Type 0} → (List ℕ → A → Type 0) → Type 0
Once {A} Says = (value : List ℕ) (x y : A) → Says value x → Says value y → x ≡ y

-- so do the values of a field
given_once : {A : Type 0} (Says : List ℕ → A → Type 0) (default : A) → Once Says → (values : List (List ℕ)) (x y : A)
    → Given Says default values x → Given Says default values y → x ≡ y
given_once Says default once [] x y p q = p ∙ sym q
given_once Says default once (value ∷ []) x y p q = once value x y p q
given_once Says default once (value ∷ other ∷ values) x y p q = absurd p

names_once : Once SaysName
names_once value x y p q = let e : Some x ≡ Some y = sym p ∙ q in cc

addresses_once : (six : Bool) → Once (SaysAddress six)
addresses_once false value x y p q = ipv4_one value x y p q
addresses_once true value x y p q = ipv6_one value x y p q

states_once : Once SaysState
states_once value x y p q = let e : Some x ≡ Some y = sym p ∙ q in cc

types_once : Once SaysType
types_once value x y p q = decimal_injective x y (omega (arith, p.0)) (omega (arith, q.0)) (sym p.1 ∙ q.1)

same_packet : (p q : Packet) → p.in_name ≡ q.in_name → p.out_name ≡ q.out_name → p.src ≡ q.src → p.dst ≡ q.dst → p.proto ≡ q.proto → p.sport ≡ q.sport
    → p.dport ≡ q.dport → p.flags ≡ q.flags → p.state ≡ q.state → p.icmp ≡ q.icmp → p ≡ q
same_packet p q a b c d e f g h s t = λ i. record {
  in_name = a i;
  out_name = b i;
  src = c i;
  dst = d i;
  proto = e i;
  sport = f i;
  dport = g i;
  flags = h i;
  state = s i;
  icmp = t i;
}

packet_once : (six : Bool) (arguments : List Text) (p q : Packet) → IsAsked six arguments p → IsAsked six arguments q → p ≡ q
packet_once six arguments p q a b = same_packet p q
    (given_once SaysName [] names_once _ _ _ a.in_name b.in_name)
    (given_once SaysName [] names_once _ _ _ a.out_name b.out_name)
    (given_once (SaysAddress six) 0 (addresses_once six) _ _ _ a.src b.src)
    (given_once (SaysAddress six) 0 (addresses_once six) _ _ _ a.dst b.dst)
    (given_once SpellsProto 0 proto_once _ _ _ a.proto b.proto)
    (given_once SaysPort 0 port_once _ _ _ a.sport b.sport)
    (given_once SaysPort 0 port_once _ _ _ a.dport b.dport)
    (given_once SpellsFlags 0 flags_once _ _ _ a.flags b.flags)
    (given_once SaysState 1 states_once _ _ _ a.state b.state)
    (given_once SaysType 0 types_once _ _ _ a.icmp b.icmp)

-- a number for each word
index_of : Text → ℕ
index_of word = if bytes_eq word (codes "check") then 0
    else if bytes_eq word (codes "upper") then 1
    else if bytes_eq word (codes "lower") then 2
    else if bytes_eq word (codes "matrix") then 3
    else if bytes_eq word (codes "spoof") then 4
    else if bytes_eq word (codes "explain") then 5
    else if bytes_eq word (codes "load") then 6
    else if bytes_eq word (codes "cover") then 7
    else if bytes_eq word (codes "zones") then 8
    else 9

index : Mode → ℕ
index mode.Check = 0
index mode.Upper = 1
index mode.Lower = 2
index (mode.Matrix service side zones hops) = 3
index (mode.Spoof claims) = 4
index (mode.Explain p) = 5
index (mode.Load count) = 6
index mode.Cover = 7
index (mode.Zones claims) = 8
index (mode.Routes hops) = 9

index_is : (m : Mode) → index_of (word_of m) ≡ index m
unfolding index index_of
index_is mode.Check = refl
index_is mode.Upper = refl
index_is mode.Lower = refl
index_is (mode.Matrix service side zones hops) = refl
index_is (mode.Spoof claims) = refl
index_is (mode.Explain p) = refl
index_is (mode.Load count) = refl
index_is mode.Cover = refl
index_is (mode.Zones claims) = refl
index_is (mode.Routes hops) = refl

same_index : (m n : Mode) → word_of m ≡ word_of n → index m ≡ index n
same_index m n e = sym (index_is m) ∙ ap index_of e ∙ index_is n

-- the first argument is one service, the others are zones and routes in one way, and the side is one
matrix_once : (six : Bool) (parts : Parts) (a b : Service) (x y : Side) (zones zones' : List Claim) (hops hops' : List Hop)
    → AsksMatrix six parts a x zones hops → AsksMatrix six parts b y zones' hops' → mode.Matrix a x zones hops ≡ mode.Matrix b y zones' hops'
matrix_once six parts a b x y zones zones' hops hops' p q =
    let args : p.first ∷ p.rest ≡ q.first ∷ q.rest = sym p.args_are ∙ q.args_are in
    let same : q.first ≡ p.first = cc in
    let others : q.rest ≡ p.rest = cc in
    let service : a ≡ b = service_once p.first a b p.service_is (subst (λ (t : Text). IsService t b) same q.service_is) in
    let sides : x ≡ y = side_once parts.side x y p.side_is q.side_is in
    let inside : zones ≡ zones' = claims_once six (filter (λ text. not (is_route text)) p.rest) zones zones' p.zones_are.0
    (subst (λ (ts : List Text). AreClaims (SaysAddress six) (width_of six) (filter (λ text. not (is_route text)) ts) zones') others q.zones_are.0) in
    let ways : hops ≡ hops' = hops_once six (filter is_route p.rest) hops hops' p.routes_are.0
    (subst (λ (ts : List Text). AllZip (IsRoute (SaysAddress six) (width_of six)) (filter is_route ts) hops') others q.routes_are.0) in
    cc

load_once : (parts : Parts) (m n : ℕ) → AsksLoad parts m → AsksLoad parts n → m ≡ n
load_once parts m n (low, small, is, side, chain, family) (low', small', is', side', chain', family') =
    let args : decimal m ∷ [] ≡ decimal n ∷ [] = sym is ∙ is' in
    let same : decimal m ≡ decimal n = cc in
    decimal_injective m n (omega (arith, small)) (omega (arith, small')) same

mode_once : (six : Bool) (parts : Parts) (m n : Mode) → word_of m ≡ word_of n → Suits six parts m → Suits six parts n → m ≡ n
unfolding index
mode_once six parts mode.Check mode.Check e a b = refl
mode_once six parts mode.Check n e a b = let f = same_index mode.Check n e in absurd (omega (arith, f))
mode_once six parts mode.Upper mode.Upper e a b = refl
mode_once six parts mode.Upper n e a b = let f = same_index mode.Upper n e in absurd (omega (arith, f))
mode_once six parts mode.Lower mode.Lower e a b = refl
mode_once six parts mode.Lower n e a b = let f = same_index mode.Lower n e in absurd (omega (arith, f))
mode_once six parts (mode.Explain p) (mode.Explain q) e a b = ap mode.Explain (packet_once six parts.args p q a.1 b.1)
mode_once six parts (mode.Explain p) n e a b = let f = same_index (mode.Explain p) n e in absurd (omega (arith, f))
mode_once six parts (mode.Matrix service side zones hops) (mode.Matrix service' side' zones' hops') e a b =
    matrix_once six parts service service' side side' zones zones' hops hops' a b
mode_once six parts (mode.Matrix service side zones hops) n e a b = let f = same_index (mode.Matrix service side zones hops) n e in absurd (omega (arith, f))
mode_once six parts (mode.Spoof claims) (mode.Spoof claims') e a b = ap mode.Spoof (claims_once six parts.args claims claims' a.2 b.2)
mode_once six parts (mode.Spoof claims) n e a b = let f = same_index (mode.Spoof claims) n e in absurd (omega (arith, f))
mode_once six parts (mode.Load count) (mode.Load count') e a b = ap mode.Load (load_once parts count count' a b)
mode_once six parts (mode.Load count) n e a b = let f = same_index (mode.Load count) n e in absurd (omega (arith, f))
mode_once six parts mode.Cover mode.Cover e a b = refl
mode_once six parts mode.Cover n e a b = let f = same_index mode.Cover n e in absurd (omega (arith, f))
mode_once six parts (mode.Zones claims) (mode.Zones claims') e a b = ap mode.Zones (claims_once six parts.args claims claims' a.2.0 b.2.0)
mode_once six parts (mode.Zones claims) n e a b = let f = same_index (mode.Zones claims) n e in absurd (omega (arith, f))
mode_once six parts (mode.Routes hops) (mode.Routes hops') e a b = ap mode.Routes (hops_once six parts.args hops hops' a.2.0 b.2.0)
mode_once six parts (mode.Routes hops) n e a b = let f = same_index (mode.Routes hops) n e in absurd (omega (arith, f))

same_request : (r s : Request) → r.mode ≡ s.mode → r.chain ≡ s.chain → r.six ≡ s.six → r ≡ s
same_request r s a b c = λ i. record { mode = a i; chain = b i; six = c i }

asks_once : (parts : Parts) (r s : Request) → Asks parts r → Asks parts s → r ≡ s
asks_once parts r s a b =
    let words : Some (word_of r.mode) ≡ Some (word_of s.mode) = sym a.word ∙ b.word in
    let families : Some r.six ≡ Some s.six = sym a.family ∙ b.family in
    let word : word_of r.mode ≡ word_of s.mode = cc in
    let six : r.six ≡ s.six = cc in
    same_request r s (mode_once s.six parts r.mode s.mode word (subst (λ (x : Bool). Suits x parts r.mode) six a.rest) b.rest)
    (a.chain ∙ sym b.chain) six

pub spells_once : (words : List Text) (r s : Request) → Spells words r → Spells words s → r ≡ s
unfolding Spells
spells_once words r s (p, taken, a) (q, taken', b) =
    let e : Some p ≡ Some q = sym taken ∙ taken' in
    let same : q ≡ p = cc in
    asks_once p r s a (subst (λ (x : Parts). Asks x s) same b)
