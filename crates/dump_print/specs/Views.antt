-- What the records of the code are.
use Rattle.std.specs.Prelude.{ℕ, ◌≡◌, ◌+◌, List, length, map}
use Rattle.dump_grammar.specs.Lines.{Text, Word}
use Rattle.dump_print.specs.declared.helpers.Helped.{Helped}
use Rattle.dump_print.specs.declared.lines.Frame.{Frame}
use Rattle.dump_print.specs.declared.lines.Line.{Line}
use Rattle.dump_print.specs.declared.lines.LineAxes.{LineAxes}
use Rattle.dump_print.specs.CubeLines.{choices_of, part_words}
use Rattle.dump_print.specs.Helpers.{HelpedRule}
use Rattle.dump_print.specs.Parts.{Axes, Choice, rule_words}
use Rattle.dump_print.specs.Ports.{ports_of}
use Rattle.dump_print.specs.Printed.{lines_of_helper}
use Rattle.dump_print.specs.Numbers.{protocols_of, types_of}

abbrev pub choice_of : Line → Choice
choice_of line = record {
  source = line.source;
  destination = line.destination;
  sports = ports_of line.sports;
  dports = ports_of line.dports;
  flags = line.flags;
}

abbrev pub axes_in : LineAxes → Axes
axes_in axes = record {
  sources = axes.sources.now;
  destinations = axes.destinations.now;
  sports = map ports_of axes.sports.now;
  dports = map ports_of axes.dports.now;
  flags = axes.flags.now;
}

-- the protocols and the types of messages are those of the cube
abbrev pub IsFrame : {W : ℕ} → Frame W → Type 0
IsFrame frame = (frame.protocols ≡ protocols_of frame.cube.now.proto) × (frame.types ≡ types_of frame.cube.now.icmp)

abbrev pub helped_of : {W : ℕ} → Helped W → HelpedRule W
helped_of helped = record { rule = helped.rule.now; helper = helped.helper }

-- how many lines a rule has, with those of its helper chain
abbrev pub count_of : {W : ℕ} → HelpedRule W → ℕ
count_of helped = length (choices_of helped.rule.cube) + length (lines_of_helper helped.rule helped.helper)

-- `text_of` is the one text of an address of `W` bits
module _ (text_of : ℕ → Text) (W : ℕ) where
  -- a line in its frame
  abbrev pub frame_words : Frame W → Choice → List Word
  frame_words frame line = rule_words frame.chain.now (part_words text_of W frame.cube.now line) frame.target.now
