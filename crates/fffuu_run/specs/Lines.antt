-- The number and the line of a status.
use Rattle.std.specs.Prelude.{ℕ, List, [], ◌∷◌, ◌++◌, codes, decimal}
use Rattle.fw_text.specs.Names.{shown_name}
use Rattle.fffuu_run.specs.declared.status.Status.{Status}
use Rattle.fffuu_run.specs.declared.status.Status.TheVariants as status
use Rattle.simple_filter.specs.declared.refusal.Kind.{Kind}
use Rattle.simple_filter.specs.declared.refusal.Kind.TheVariants as kind
use Rattle.fffuu_run.specs.declared.telling.Line.{Line}
use Rattle.fffuu_run.specs.declared.telling.Line.TheVariants as line

-- the number that the program ends with
abbrev pub code_of : Status → ℕ
code_of status.Ok = 0
code_of status.Usage = 1
code_of status.ReadFault = 2
code_of status.WriteFault = 3
code_of status.InputTooLong = 4
code_of (status.Malformed n) = 5
code_of status.NoFilter = 6
code_of (status.UndefinedChain n) = 7
code_of status.NoChain = 8
code_of (status.Unsupported n name) = 9
code_of (status.CallLoop name) = 10
code_of (status.Limit k) = 11
code_of status.Memory = 12
code_of status.NoDivider = 14

-- the word of a limit
abbrev pub limit_word : Kind → List ℕ
limit_word kind.Depth = codes "depth"
limit_word kind.Nodes = codes "nodes"
limit_word kind.Literals = codes "literals"
limit_word kind.Boxes = codes "boxes"
limit_word kind.Rules = codes "rules"
limit_word kind.Lines = codes "lines"
limit_word kind.Atoms = codes "atoms"
limit_word kind.Regions = codes "regions"
limit_word kind.Visits = codes "visits"

-- a line that the program writes of itself
abbrev pub told : List ℕ → List ℕ
told text = codes "fffuu: " ++ text ++ 10 ∷ []

-- the line of a status, where the chain of this name was asked about
abbrev pub line_of : List ℕ → Status → List ℕ
line_of asked status.Ok = []
line_of asked status.Usage = told (codes "usage: fffuu MODE [--chain NAME] [--family 4|6] [--side upper|lower] [ARGS]")
line_of asked status.ReadFault = told (codes "read failed")
line_of asked status.WriteFault = told (codes "write failed")
line_of asked status.InputTooLong = told (codes "input is longer than 16777216 bytes")
line_of asked status.NoDivider = told (codes "no dividing line")
line_of asked (status.Malformed n) = told (codes "line " ++ decimal n ++ codes ": malformed")
line_of asked status.NoFilter = told (codes "no filter table")
line_of asked (status.UndefinedChain n) = told (codes "line " ++ decimal n ++ codes ": undefined chain")
line_of asked status.NoChain = told (codes "no chain " ++ shown_name asked)
line_of asked (status.Unsupported n name) = told (codes "line " ++ decimal n ++ codes ": unsupported target " ++ shown_name name)
line_of asked (status.CallLoop name) = told (codes "call loop through " ++ shown_name name)
line_of asked (status.Limit k) = told (codes "limit " ++ limit_word k)
line_of asked status.Memory = told (codes "out of memory")

-- a status whose line has a number or a name in it, and so takes memory
abbrev pub IsBuilt : Status → Type 0
IsBuilt (status.Malformed n) = Unit {0}
IsBuilt (status.UndefinedChain n) = Unit {0}
IsBuilt status.NoChain = Unit {0}
IsBuilt (status.Unsupported n name) = Unit {0}
IsBuilt (status.CallLoop name) = Unit {0}
IsBuilt s = ⊥

-- the bytes of a line of the code
abbrev pub text_of : Line → List ℕ
text_of (line.Fixed text) = text.now
text_of (line.Built text) = text.items
