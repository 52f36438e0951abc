-- What code says of a side and of the protocol of a line. The contracts of private functions cite this.
use Rattle.std.specs.Prelude.{ℕ, List, Option, Some, None, option_map}
use Rattle.name_set.specs.declared.pattern.Pattern.{Pattern}
use Rattle.opt_table.specs.Options.{Form, Spelling}
use Rattle.opt_table.specs.declared.kind.Side.{Side}
use Rattle.primitives.specs.declared.prim.Prim_.{Prim_}
use Rattle.dump_grammar.specs.Arguments.{LineProtocol}
use Rattle.dump_grammar.specs.Groups.{Group, row_of}
use Rattle.dump_grammar.specs.Lines.{Text}

module _ {W : ℕ} where
  -- the input interface has a name of the pattern, or the output interface
  abbrev pub names_at : Side → Pattern → Prim_ W
  names_at Side.Source pattern = Prim_.InName pattern
  names_at Side.Destination pattern = Prim_.OutName pattern

-- the form of the arguments of this option of this module, where it has a row
abbrev pub form_named : Text → Text → Option Form
form_named name option = option_map (λ (row : Spelling). row.form) (row_of name option)

-- the protocol with ports that the line names, where it names one
abbrev pub HasProtocol : List Group → Option ℕ → Type 0
HasProtocol groups (Some n) = LineProtocol groups n
HasProtocol groups None = (n : ℕ) → LineProtocol groups n → ⊥
