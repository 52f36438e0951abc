-- What std reads is an IPv4 text.
use Rattle.std.proofs.Common.{◌≡◌, ◌∙◌, ℕ, List, [], ◌∷◌, arith, sym, ap}
use Rattle.std.specs.Int.{from_be_bytes, w32}
use Rattle.std.specs.Net.Grammar.{IsDotted}
use Rattle.addr_text.specs.Digits.{number_of}
use Rattle.addr_text.specs.Grammar.{IsIpv4}

four_octets : (a b c d : ℕ) → from_be_bytes w32 (a ∷ b ∷ c ∷ d ∷ []) ≡ number_of 256 (a ∷ b ∷ c ∷ d ∷ [])
four_octets a b c d = omega arith

pub ipv4_of_octets : (text octets : List ℕ) (value : ℕ) → IsDotted text octets → value ≡ from_be_bytes w32 octets → IsIpv4 text value
ipv4_of_octets text octets value s is = record {
  octets = octets;
  spelled = s;
  value_is = is ∙ ap (from_be_bytes w32) s.value ∙ four_octets s.a s.b s.c s.d ∙ ap (number_of 256) (sym s.value);
}
