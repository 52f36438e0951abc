-- A service's text is parted at its two colons, and a side's text is one word.
use Rattle.std.proofs.Common.{◌≡◌, ◌∙◌, ◌==◌, ◌++◌, ℕ, List, ◌∷◌, Option, None, Some, not, refl, sym, ap, subst, arith, inl, inr, codes, get_or, lit≤}
use Rattle.std.specs.List.{list_all}
use Rattle.std.proofs.lemmas.Fmt.{decimal_injective}
use Rattle.basics.specs.Parts.{Lacks}
use Rattle.basics.proofs.PartingLemmas.{decimal_lacks, lacks_none, one_parting, tested_lacks}
use Rattle.primitives.specs.Tables.{Named, proto_names}
use Rattle.primitives.specs.Words.{SpellsProto}
use Rattle.primitives.proofs.WordLemmas.{number_passes, proto_once}
use Rattle.fw_rule.specs.declared.side.Side.{Side}
use Rattle.service_packet.specs.declared.service.Service.{Service}
use Rattle.request.specs.Arguments.{IsService, IsSide}
use Rattle.request.specs.Fields.{SaysPort}

proto_lacks : (text : List ℕ) (n : ℕ) → SpellsProto text n → Lacks 58 text
unfolding proto_names
proto_lacks text n (inl is) = tested_lacks 58 text (number_passes (λ (word : Named). list_all (λ b. not (b == 58)) word.name) proto_names text n refl is)
proto_lacks text n (inr (small, is)) = subst (Lacks 58) (sym is) (decimal_lacks 58 n (lit≤ tt) (omega (arith, small)))

port_lacks : (text : List ℕ) (port : ℕ) → SaysPort text port → Lacks 58 text
port_lacks text port (small, is) = subst (Lacks 58) (sym is) (decimal_lacks 58 port (lit≤ tt) (omega (arith, small)))

pub port_once : (text : List ℕ) (x y : ℕ) → SaysPort text x → SaysPort text y → x ≡ y
port_once text x y (p, is) (q, same) = decimal_injective x y (omega (arith, p)) (omega (arith, q)) (sym is ∙ same)

-- two ports with a colon between them
abbrev ArePorts : List ℕ → ℕ → ℕ → Type 0
ArePorts text x y = (sport dport : List ℕ) × (text ≡ sport ++ (58 ∷ dport)) × SaysPort sport x × SaysPort dport y

-- a text that is parted at its first colon
abbrev pub IsCut : List ℕ → List ℕ → List ℕ → Type 0
IsCut text front back = (text ≡ front ++ (58 ∷ back)) × Lacks 58 front

proto_and_ports : (text front back : List ℕ) (s : Service) → IsCut text front back → IsService text s → SpellsProto front s.proto × ArePorts back s.sport s.dport
proto_and_ports text front back s (split, lacks) (proto, sport, dport, (is, spelled, x, y)) =
    let (front_is, back_is) = one_parting 58 text front back proto (sport ++ (58 ∷ dport)) lacks (proto_lacks proto s.proto spelled) split is in
    (subst (λ (t : List ℕ). SpellsProto t s.proto) (sym front_is) spelled, (sport, dport, back_is, x, y))

two_ports : (text front back : List ℕ) (m n : ℕ) → IsCut text front back → ArePorts text m n → SaysPort front m × SaysPort back n
two_ports text front back m n (split, lacks) (sport, dport, is, x, y) =
    let (front_is, back_is) = one_parting 58 text front back sport dport lacks (port_lacks sport m x) split is in
    (subst (λ (t : List ℕ). SaysPort t m) (sym front_is) x, subst (λ (t : List ℕ). SaysPort t n) (sym back_is) y)

-- a text without a colon is no service
pub no_colon : (text : List ℕ) → Lacks 58 text → (s : Service) → IsService text s → ⊥
no_colon text lacks s (proto, sport, dport, is) = lacks_none 58 text proto (sport ++ (58 ∷ dport)) lacks is.0

-- nor is one with one colon
pub one_colon : (text front back : List ℕ) → IsCut text front back → Lacks 58 back → (s : Service) → IsService text s → ⊥
one_colon text front back cut lacks s is =
    let (sport, dport, split, x, y) = (proto_and_ports text front back s cut is).1 in
    lacks_none 58 back sport dport lacks split

module _ (text proto ports sport dport : List ℕ) (first : IsCut text proto ports) (second : IsCut ports sport dport) where
  pub proto_of : (s : Service) → IsService text s → SpellsProto proto s.proto
  proto_of s is = (proto_and_ports text proto ports s first is).0

  pub sport_of : (s : Service) → IsService text s → SaysPort sport s.sport
  sport_of s is = (two_ports ports sport dport s.sport s.dport second (proto_and_ports text proto ports s first is).1).0

  pub dport_of : (s : Service) → IsService text s → SaysPort dport s.dport
  dport_of s is = (two_ports ports sport dport s.sport s.dport second (proto_and_ports text proto ports s first is).1).1

same_service : (s t : Service) → s.proto ≡ t.proto → s.sport ≡ t.sport → s.dport ≡ t.dport → s ≡ t
same_service s t a b c = λ i. record { proto = a i; sport = b i; dport = c i }

-- a text is one service
pub service_once : (text : List ℕ) (s t : Service) → IsService text s → IsService text t → s ≡ t
service_once text s t (proto, sport, dport, (is, spelled, x, y)) other =
    let ports = sport ++ (58 ∷ dport) in
    let first : IsCut text proto ports = (is, proto_lacks proto s.proto spelled) in
    let second : IsCut ports sport dport = (refl, port_lacks sport s.sport x) in
    same_service s t
    (proto_once proto s.proto t.proto spelled (proto_of text proto ports sport dport first second t other))
    (port_once sport s.sport t.sport x (sport_of text proto ports sport dport first second t other))
    (port_once dport s.dport t.dport y (dport_of text proto ports sport dport first second t other))

other_words : codes "upper" ≡ codes "lower" → ⊥
other_words e = let first : 117 ≡ 108 = ap (λ (text : List ℕ). get_or text 0 0) e in absurd (omega (arith, first))

-- and one side
pub side_once : (o : Option (List ℕ)) (a b : Side) → IsSide o a → IsSide o b → a ≡ b
side_once None a b p q = p ∙ sym q
side_once (Some text) Side.Upper Side.Upper p q = refl
side_once (Some text) Side.Upper Side.Lower p q = absurd (other_words (sym p ∙ q))
side_once (Some text) Side.Lower Side.Upper p q = absurd (other_words (sym q ∙ p))
side_once (Some text) Side.Lower Side.Lower p q = refl
