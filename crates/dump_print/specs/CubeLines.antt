-- The rule lines of a cube.
use Rattle.std.specs.Prelude.{ℕ, ◌++◌, List, codes}
use Rattle.box_norm.specs.declared.cube.Cube.{Cube}
use Rattle.dump_grammar.specs.Lines.{Text, Word}
use Rattle.dump_print.specs.Addresses.{net_words}
use Rattle.dump_print.specs.Flags.{cubes_of}
use Rattle.dump_print.specs.Parts.{Axes, Choice, choices_in, name_words, protocol_words, iprange_words, own_module_words, own_words, listed_words, state_words, type_words}
use Rattle.dump_print.specs.Ports.{port_choices}
use Rattle.dump_print.specs.Numbers.{protocols_of, types_of}

-- what the lines of a cube say, each dimension by itself
abbrev pub axes_of : {W : ℕ} → Cube W → Axes
axes_of cube = record {
  sources = cube.src;
  destinations = cube.dst;
  sports = port_choices (protocols_of cube.proto) cube.sport;
  dports = port_choices (protocols_of cube.proto) cube.dport;
  flags = cubes_of cube.flags;
}

-- a choice for each line of the cube
abbrev pub choices_of : {W : ℕ} → Cube W → List Choice
choices_of cube = choices_in (axes_of cube)

-- `text_of` is the one text of an address of `W` bits
module _ (text_of : ℕ → Text) (W : ℕ) where
  -- the options that need no module
  abbrev pub base_option_words : Cube W → Choice → List Word
  base_option_words cube line =
      net_words text_of W (codes "-s") line.source ++ (net_words text_of W (codes "-d") line.destination
      ++ (name_words (codes "-i") cube.in_name ++ (name_words (codes "-o") cube.out_name
      ++ protocol_words (protocols_of cube.proto))))

  -- the options of modules
  abbrev pub module_option_words : Cube W → Choice → List Word
  module_option_words cube line =
      iprange_words text_of W line.source line.destination
      ++ (own_module_words (protocols_of cube.proto) (own_words line.sports line.dports line.flags)
      ++ (type_words (protocols_of cube.proto) (types_of cube.icmp)
      ++ (listed_words (codes "--sports") line.sports ++ (listed_words (codes "--dports") line.dports
      ++ state_words cube.state))))

  -- what a line says of the packets
  abbrev pub part_words : Cube W → Choice → List Word
  part_words cube line = base_option_words cube line ++ module_option_words cube line
