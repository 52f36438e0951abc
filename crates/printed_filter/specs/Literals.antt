-- What a printed line says of the packets, as literals.
use Rattle.std.specs.Prelude.{ℕ, ◌==◌, ◌++◌, ◌∷◌, [], List, true, false, Option, Some, None, map, if◌then◌else◌}
use Rattle.interval_set.specs.declared.set.Range.{Range}
use Rattle.match_expr.specs.declared.expr.Expr.{Expr}
use Rattle.match_expr.specs.declared.expr.Expr.TheVariants.{Prim}
use Rattle.name_set.specs.declared.pattern.Pattern.{Pattern}
use Rattle.name_set.specs.declared.set.NameSet.{NameSet}
use Rattle.primitives.specs.declared.prim.Prim_.{Prim_}
use Rattle.fw_rule.specs.declared.rule.Lit.{Lit}
use Rattle.box_norm.specs.declared.cube.Cube.{Cube}
use Rattle.opt_table.specs.Options.{destination_ports, source_ports}
use Rattle.dump_print.specs.declared.flags.FlagCube.{FlagCube}
use Rattle.dump_print.specs.declared.numbers.Numbers.{Numbers}
use Rattle.dump_print.specs.Addresses.{is_everything, prefix_length}
use Rattle.dump_print.specs.Names.{is_every_name, is_plain_names}
use Rattle.dump_print.specs.Parts.{Choice}
use Rattle.dump_print.specs.Ports.{Ports}
use Rattle.dump_print.specs.Numbers.{number_of, protocols_of, types_of}

module _ {W : ℕ} where
  -- the test holds
  abbrev pub yes : Prim_ W → Lit (Prim_ W)
  yes x = Lit.Known false (Prim x)

  -- the test doesn't hold
  abbrev pub no : Prim_ W → Lit (Prim_ W)
  no x = Lit.Known true (Prim x)

  abbrev pub prefix_literal : (List Range → Prim_ W) → Range → Option ℕ → List (Lit (Prim_ W))
  prefix_literal prim r None = []
  prefix_literal prim r (Some len) = yes (prim (r ∷ [])) ∷ []

  -- an address in a range that is a prefix
  abbrev pub net_literals : (List Range → Prim_ W) → Range → List (Lit (Prim_ W))
  net_literals prim r = if is_everything W r then [] else prefix_literal prim r (prefix_length W r)

  abbrev pub other_literal : (List Range → Prim_ W) → Range → Option ℕ → List (Lit (Prim_ W))
  other_literal prim r None = yes (prim (r ∷ [])) ∷ []
  other_literal prim r (Some len) = []

  -- an address in a range that is no prefix
  abbrev pub range_literals : (List Range → Prim_ W) → Range → List (Lit (Prim_ W))
  range_literals prim r = other_literal prim r (prefix_length W r)

  -- the name of an interface
  abbrev pub name_literals : (Pattern → Prim_ W) → NameSet → List (Lit (Prim_ W))
  name_literals prim names =
      (if is_every_name names.base then [] else yes (prim names.base) ∷ [])
      ++ (if is_plain_names names then map (λ pattern. no (prim pattern)) names.excluded else [])

  -- numbers as one line says them
  abbrev pub number_literals : (ℕ → Prim_ W) → Numbers → List (Lit (Prim_ W))
  number_literals prim Numbers.Every = []
  number_literals prim (Numbers.Only n) = yes (prim n) ∷ []
  number_literals prim (Numbers.AllBut n) = no (prim n) ∷ []
  number_literals prim Numbers.Others = []

  abbrev pub protocol_literals : Numbers → List (Lit (Prim_ W))
  protocol_literals protocols = number_literals Prim_.Proto protocols

  -- a message of this protocol, of this type
  abbrev pub message : ℕ → ℕ → Prim_ W
  message n kind = Prim_.IcmpKind (record { proto = n; kind = kind })

  -- the types of messages, where the protocols are one whose messages have types
  abbrev pub type_literals : Numbers → Numbers → List (Lit (Prim_ W))
  type_literals (Numbers.Only n) types =
      if n == 1 then number_literals (message n) types else if n == 58 then number_literals (message n) types else []
  type_literals _ types = []

  -- a port, as an option of tcp or udp says it
  abbrev pub single_literals : (List Range → Expr (Prim_ W)) → Ports → List (Lit (Prim_ W))
  single_literals expr Ports.Every = []
  single_literals expr (Ports.Single r) = Lit.Known false (expr (r ∷ [])) ∷ []
  single_literals expr (Ports.Listed rs) = []

  -- a port, as a list of multiport says it
  abbrev pub listed_literals : (List Range → Expr (Prim_ W)) → Ports → List (Lit (Prim_ W))
  listed_literals expr Ports.Every = []
  listed_literals expr (Ports.Single r) = []
  listed_literals expr (Ports.Listed rs) = Lit.Known false (expr rs) ∷ []

  abbrev pub flags_literals : FlagCube → List (Lit (Prim_ W))
  flags_literals cube = if cube.mask == 0 then [] else yes (Prim_.Flags cube.mask cube.comp) ∷ []

  abbrev pub state_literals : ℕ → List (Lit (Prim_ W))
  state_literals states = if states == 31 then [] else yes (Prim_.State states) ∷ []

  -- the options of tcp or udp, of which the protocol is this
  abbrev pub own_literals : ℕ → Choice → List (Lit (Prim_ W))
  own_literals n line = single_literals (source_ports n) line.sports
      ++ (single_literals (destination_ports n) line.dports ++ flags_literals line.flags)

  -- the same, where the protocols are one that has a module of its own
  abbrev pub own_module_literals : Numbers → Choice → List (Lit (Prim_ W))
  own_module_literals (Numbers.Only n) line = if n == 6 then own_literals n line else if n == 17 then own_literals n line else []
  own_module_literals _ line = []

  -- what the options say that need no module
  abbrev pub base_literals : Cube W → Choice → List (Lit (Prim_ W))
  base_literals cube line =
      net_literals Prim_.Src line.source ++ (net_literals Prim_.Dst line.destination
      ++ (name_literals Prim_.InName cube.in_name ++ (name_literals Prim_.OutName cube.out_name
      ++ protocol_literals (protocols_of cube.proto))))

  -- what the options of modules say
  abbrev pub module_literals : Cube W → Choice → List (Lit (Prim_ W))
  module_literals cube line =
      range_literals Prim_.Src line.source ++ (range_literals Prim_.Dst line.destination
      ++ (own_module_literals (protocols_of cube.proto) line
      ++ (type_literals (protocols_of cube.proto) (types_of cube.icmp)
      ++ (listed_literals (source_ports (number_of (protocols_of cube.proto))) line.sports
      ++ (listed_literals (destination_ports (number_of (protocols_of cube.proto))) line.dports ++ state_literals cube.state)))))

  -- what a line of a cube says
  abbrev pub line_literals : Cube W → Choice → List (Lit (Prim_ W))
  line_literals cube line = base_literals cube line ++ module_literals cube line
