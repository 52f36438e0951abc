-- One pass over the rules for the packets between a fixed address and the others.
use Rattle.std.specs.Prelude.{ℕ, ◌≡◌, ◌^◌, ◌&&◌, ◌||◌, nat_lt, Bool, List, unwrap_or}
use Rattle.std.specs.List.{AllByRecursion}
use Rattle.primitives.specs.declared.prim.Packet.{Packet}
use Rattle.fw_rule.specs.declared.rule.Verdict.{Verdict}
use Rattle.fw_rule.specs.Answers.{is_accept}
use Rattle.interval_set.specs.declared.set.Range.{Range}
use Rattle.interval_set.specs.Numbers.{has}
use Rattle.box_norm.specs.declared.cube.Cube.{Cube}
use Rattle.box_norm.specs.declared.cube.SimpleRule.{SimpleRule}
use Rattle.box_norm.specs.Normal.{first_of}
use Rattle.service_packet.specs.declared.service.Service.{Service}
use Rattle.service_packet.specs.Packets.{service_packet}
use Rattle.service_matrix.specs.declared.rows.Fixed.{Fixed}
use Rattle.service_matrix.specs.declared.rows.Part.{Part}

-- the service's packet between the fixed address and another
abbrev pub packet_at : Fixed → Service → ℕ → ℕ → Packet
packet_at Fixed.Source service here there = service_packet service here there
packet_at Fixed.Destination service here there = service_packet service there here

-- whether some rules with their policy accept that packet
abbrev pub accepts_at : {W : ℕ} → Fixed → List (SimpleRule W) → Verdict → Service → ℕ → ℕ → Bool
accepts_at fixed rules policy service here there = unwrap_or (first_of rules (packet_at fixed service here there)) (is_accept policy)

-- What a part of a list tells of the other addresses: it accepts those of the one set, and of those of the other that it doesn't accept
-- no rule of it holds.
-- `otherwise` stands for what is answered where no rule holds.
abbrev pub Tells : {W : ℕ} → Fixed → List (SimpleRule W) → Service → ℕ → Part W → Type 0
Tells {W} fixed rules service here part = (there : ℕ) (otherwise : Bool) → (has part.accepted there || (has part.undecided there && otherwise))
    ≡ (nat_lt there (2 ^ W) && unwrap_or (first_of rules (packet_at fixed service here there)) otherwise)

-- the cube's sets of the addresses that stay, and of the others
abbrev pub near : {W : ℕ} → Cube W → Fixed → List Range
near cube Fixed.Source = cube.src
near cube Fixed.Destination = cube.dst

abbrev pub far : {W : ℕ} → Cube W → Fixed → List Range
far cube Fixed.Source = cube.dst
far cube Fixed.Destination = cube.src

-- two lists of rules answer each packet of the service alike
abbrev pub AnswerAlike : {W : ℕ} → Service → List (SimpleRule W) → List (SimpleRule W) → Type 0
AnswerAlike service kept rules = (s d : ℕ) → first_of kept (service_packet service s d) ≡ first_of rules (service_packet service s d)

-- each rule has both addresses among those that stay, or neither
abbrev pub StandAlike : {W : ℕ} → Fixed → List (SimpleRule W) → ℕ → ℕ → Type 0
StandAlike fixed rules one other = AllByRecursion (λ rule. has (near rule.cube fixed) one ≡ has (near rule.cube fixed) other) rules
