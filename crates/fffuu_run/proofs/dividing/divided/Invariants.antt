use Rattle.std.proofs.Common.{List, length}
use Rattle.dump_grammar.specs.Lines.{Text}
use Rattle.fffuu_run.proofs.Division.{Seen}
use Rattle.fffuu_run.proofs.dividing.divided.Given as goal

abbrev pub invariant-loop-line : goal.invariant-loop-line
invariant-loop-line l = (lines : List Text) × (front : Text) × Seen l.fn.text l.rest lines front l.before

abbrev pub decreases-loop-line : goal.decreases-loop-line
decreases-loop-line l = length l.rest
