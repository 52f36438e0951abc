-- What std reads is an IPv6 text, and its groups are those of the value.
use Rattle.std.proofs.Common.{◌≡◌, ◌∙◌, ◌+◌, ◌*◌, ◌/◌, ◌%◌, ◌^◌, ℕ, List, [], ◌∷◌, arith, sym, ap, subst, length}
use Rattle.std.specs.Int.{from_be_bytes, to_be_bytes, w128}
use Rattle.std.specs.Net.Addr.{octets_of, segments_of}
use Rattle.std.specs.Net.Grammar.{IsColonHex}
use Rattle.std.proofs.NetLemmas.Arrays.{eight_items}
use Rattle.std.proofs.lemmas.Nat.{shr-shr}
use Rattle.addr_text.specs.Digits.{number_of, digits_of}
use Rattle.addr_text.specs.Grammar.{IsIpv6}
use Rattle.addr_text.specs.Ipv6Laws.{eight_read}

octets_number : (a b c d e f g h : ℕ) → let groups : List ℕ = a ∷ b ∷ c ∷ d ∷ e ∷ f ∷ g ∷ h ∷ [] in from_be_bytes w128 (octets_of groups) ≡ number_of 65536 groups
octets_number a b c d e f g h = omega arith

eight_number : (groups : List ℕ) → length groups ≡ 8 → from_be_bytes w128 (octets_of groups) ≡ number_of 65536 groups
eight_number groups count =
    subst (λ (l : List ℕ). from_be_bytes w128 (octets_of l) ≡ number_of 65536 l) (sym (eight_items groups count)) (octets_number _ _ _ _ _ _ _ _)

pub ipv6_of_groups : (text groups : List ℕ) (value : ℕ) → IsColonHex text groups → value ≡ from_be_bytes w128 (octets_of groups) → IsIpv6 text value
ipv6_of_groups text groups value s is = record {
  groups = groups;
  spelled = s;
  value_is = is ∙ eight_number groups (eight_read text groups s).count;
}

-- two bytes are a group
pair : (n k : ℕ) → (n / 2 ^ (k + 8) % 256) * 256 + n / 2 ^ k % 256 ≡ n / 2 ^ k % 65536
pair n k = let m = n / 2 ^ k in let high : n / 2 ^ k / 2 ^ 8 ≡ n / 2 ^ (k + 8) = shr-shr n k 8 in
    ap (λ t. t % 256 * 256 + n / 2 ^ k % 256) (sym high) ∙ whole (n / 2 ^ k)
  where
    whole : (m : ℕ) → (m / 2 ^ 8 % 256) * 256 + m % 256 ≡ m % 65536
    whole m = omega arith

last : (n : ℕ) → (n / 256 % 256) * 256 + n % 256 ≡ n / 1 % 65536
last n = omega arith

same_eight : (a b c d e f g h a' b' c' d' e' f' g' h' : ℕ) → a ≡ a' → b ≡ b' → c ≡ c' → d ≡ d' → e ≡ e' → f ≡ f' → g ≡ g' → h ≡ h' →
    (let first : List ℕ = a ∷ b ∷ c ∷ d ∷ e ∷ f ∷ g ∷ h ∷ [] in first ≡ a' ∷ b' ∷ c' ∷ d' ∷ e' ∷ f' ∷ g' ∷ h' ∷ [])
same_eight a b c d e f g h a' b' c' d' e' f' g' h' p q r s t u v w = cc

pub groups_of_bits : (n : ℕ) → segments_of (to_be_bytes w128 n) ≡ digits_of 65536 8 n
groups_of_bits n = same_eight _ _ _ _ _ _ _ _ _ _ _ _ _ _ _ _ (pair n 112) (pair n 96) (pair n 80) (pair n 64) (pair n 48) (pair n 32) (pair n 16) (last n)
