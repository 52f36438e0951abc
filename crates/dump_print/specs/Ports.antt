-- How sets of ports are written.
use Rattle.std.specs.Prelude.{ℕ, ◌+◌, ◌==◌, ◌||◌, ◌++◌, ◌∷◌, [], List, Bool, false, nat_le, map, codes, decimal, if◌then◌else◌}
use Rattle.std.specs.List.{join_by}
use Rattle.interval_set.specs.declared.set.Range.{Range}
use Rattle.dump_grammar.specs.Lines.{Text}
use Rattle.dump_print.specs.declared.ports.LinePorts.{LinePorts}
use Rattle.dump_print.specs.Addresses.{is_everything}
use Rattle.dump_print.specs.declared.numbers.Numbers.{Numbers}

-- PORT, or FIRST:LAST
abbrev pub port_text : Range → Text
port_text r = if r.lo == r.hi then decimal r.lo else decimal r.lo ++ 58 ∷ decimal r.hi

-- with commas between them
abbrev pub port_list : List Range → Text
port_list rs = join_by port_text (codes ",") rs

-- how much a list counts: a single port one, a range two
abbrev pub weight_of : List Range → ℕ
weight_of [] = 0
weight_of (r ∷ rs) = (if r.lo == r.hi then 1 else 2) + weight_of rs

abbrev pub unless_empty : List Range → List (List Range)
unless_empty [] = []
unless_empty (r ∷ rs) = (r ∷ rs) ∷ []

-- the chunks of `chunk` and of the ranges after it: a range is put to the chunk before it while that one counts at most 15
abbrev pub chunks_after : List Range → List Range → List (List Range)
chunks_after chunk [] = unless_empty chunk
chunks_after chunk (r ∷ rs) =
    if nat_le (weight_of (chunk ++ r ∷ [])) 15 then chunks_after (chunk ++ r ∷ []) rs
    else chunk ∷ chunks_after (r ∷ []) rs

-- lists that count at most 15, in which the ranges stand in order
abbrev pub chunks : List Range → List (List Range)
chunks rs = chunks_after [] rs

-- the ports of a line: all, a range as an option of tcp or udp, or a list of multiport
pub data Ports : Type 0 where
  Every : Ports
  Single : (r : Range) → Ports
  Listed : (rs : List Range) → Ports

-- whether the protocols are one that has a module with port options of its own
abbrev pub has_port_module : Numbers → Bool
has_port_module (Numbers.Only n) = (n == 6) || (n == 17)
has_port_module _ = false

-- what the lines of a set of ports say, one after another
abbrev pub port_choices : Numbers → List Range → List Ports
port_choices protocols (r ∷ []) =
    if is_everything 16 r then Ports.Every ∷ []
    else if has_port_module protocols then Ports.Single r ∷ []
    else Ports.Listed (r ∷ []) ∷ []
port_choices protocols rs = map Ports.Listed (chunks rs)

-- what the code's ports of a line are
abbrev pub ports_of : LinePorts → Ports
ports_of LinePorts.Every = Ports.Every
ports_of (LinePorts.Single r) = Ports.Single r
ports_of (LinePorts.Listed rs) = Ports.Listed rs.now
