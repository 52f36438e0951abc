-- A printed line has no unknown literal.
use Rattle.std.proofs.Common.{◌≡◌, ℕ, ◌==◌, List, [], Bool, true, false, refl}
use Rattle.std.specs.Prelude.{if◌then◌else◌}
use Rattle.primitives.specs.declared.prim.Prim_.{Prim_}
use Rattle.fw_rule.specs.declared.rule.Lit.{Lit}
use Rattle.fw_rule.specs.Walk.{doubt_in}
use Rattle.box_norm.specs.declared.cube.Cube.{Cube}
use Rattle.opt_table.specs.Options.{destination_ports, source_ports}
use Rattle.dump_print.specs.declared.numbers.Numbers.{Numbers}
use Rattle.dump_print.specs.Parts.{Choice}
use Rattle.dump_print.specs.Numbers.{number_of, protocols_of, types_of}
use Rattle.printed_filter.specs.Literals.{base_literals, flags_literals, line_literals, listed_literals, module_literals, name_literals, net_literals, own_literals, own_module_literals, protocol_literals, range_literals, single_literals, state_literals, type_literals}
use Rattle.printed_filter.proofs.AddressFacts.{net_known, range_known}
use Rattle.printed_filter.proofs.Facts.{known-append}
use Rattle.printed_filter.proofs.FlagFacts.{flags_known}
use Rattle.printed_filter.proofs.NameFacts.{names_known}
use Rattle.printed_filter.proofs.NumberFacts.{numbers_known}
use Rattle.printed_filter.proofs.PortFacts.{listed_known, single_known}
use Rattle.printed_filter.proofs.StateFacts.{state_known}
use Rattle.printed_filter.proofs.TypeFacts.{types_known}

module _ (W : ℕ) where
  abbrev AreKnown : List (Lit (Prim_ W)) → Type 0
  AreKnown lits = doubt_in lits ≡ false

  own_known : (n : ℕ) (line : Choice) → AreKnown (own_literals n line)
  own_known n line =
      known-append (single_literals (source_ports n) line.sports) _ (single_known (source_ports n) line.sports)
      (known-append (single_literals (destination_ports n) line.dports) (flags_literals line.flags)
      (single_known (destination_ports n) line.dports) (flags_known W line.flags))

  own_by : (n : ℕ) (line : Choice) (x y : Bool) → AreKnown (if x then own_literals n line else if y then own_literals n line else [])
  own_by n line true y = own_known n line
  own_by n line false true = own_known n line
  own_by n line false false = refl

  module_known : (form : Numbers) (line : Choice) → AreKnown (own_module_literals form line)
  module_known Numbers.Every line = refl
  module_known (Numbers.Only n) line = own_by n line (n == 6) (n == 17)
  module_known (Numbers.AllBut n) line = refl
  module_known Numbers.Others line = refl

  base_known : (cube : Cube W) (line : Choice) → AreKnown (base_literals cube line)
  base_known cube line =
      known-append (net_literals Prim_.Src line.source) _ (net_known Prim_.Src line.source)
      (known-append (net_literals Prim_.Dst line.destination) _ (net_known Prim_.Dst line.destination)
      (known-append (name_literals Prim_.InName cube.in_name) _ (names_known Prim_.InName cube.in_name)
      (known-append (name_literals Prim_.OutName cube.out_name) (protocol_literals (protocols_of cube.proto))
      (names_known Prim_.OutName cube.out_name) (numbers_known Prim_.Proto (protocols_of cube.proto)))))

  modules_known : (cube : Cube W) (line : Choice) → AreKnown (module_literals cube line)
  modules_known cube line =
      known-append (range_literals Prim_.Src line.source) _ (range_known Prim_.Src line.source)
      (known-append (range_literals Prim_.Dst line.destination) _ (range_known Prim_.Dst line.destination)
      (known-append (own_module_literals (protocols_of cube.proto) line) _ (module_known (protocols_of cube.proto) line)
      (known-append (type_literals (protocols_of cube.proto) (types_of cube.icmp)) _ (types_known W (protocols_of cube.proto) (types_of cube.icmp))
      (known-append (listed_literals (source_ports (number_of (protocols_of cube.proto))) line.sports) _
      (listed_known (source_ports (number_of (protocols_of cube.proto))) line.sports)
      (known-append (listed_literals (destination_ports (number_of (protocols_of cube.proto))) line.dports) (state_literals cube.state)
      (listed_known (destination_ports (number_of (protocols_of cube.proto))) line.dports) (state_known W cube.state))))))

  pub line_known : (cube : Cube W) (line : Choice) → AreKnown (line_literals cube line)
  line_known cube line = known-append (base_literals cube line) (module_literals cube line) (base_known cube line) (modules_known cube line)
