-- Protocols whose messages have a type.
use Rattle.std.specs.Prelude.{ℕ, ◌≡◌, ◌⊎◌}

-- icmp and ipv6-icmp
abbrev pub HasTypes : ℕ → Type 0
HasTypes n = (n ≡ 1) ⊎ (n ≡ 58)

-- a protocol and a type of its messages
pub record MessageType : Type 0 where
  pub proto : ℕ
  pub kind : ℕ
