-- Protocols with ports.
use Rattle.std.specs.Prelude.{ℕ, ◌≡◌, ◌⊎◌, List}
use Rattle.interval_set.specs.declared.set.Range.{Range}

-- tcp, udp, dccp, sctp and udplite
abbrev pub HasPorts : ℕ → Type 0
HasPorts n = (n ≡ 6) ⊎ (n ≡ 17) ⊎ (n ≡ 33) ⊎ (n ≡ 132) ⊎ (n ≡ 136)

-- a protocol and a set of its ports
pub record Ports : Type 0 where
  pub proto : ℕ
  pub set : List Range
