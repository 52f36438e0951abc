use Rattle.std.proofs.Common.{length}
use Rattle.dump_grammar.specs.Lines.{Text}
use Rattle.dump_read.specs.Pieces.{HasTaken}
use Rattle.dump_read.proofs.PieceLemmas.{HasPart}
use Rattle.dump_read.proofs.line_reader.take_piece.Given as goal

abbrev pub decreases-loop-line : goal.decreases-loop-line
decreases-loop-line g l = length l.rest

abbrev pub invariant-loop-line : goal.invariant-loop-line
invariant-loop-line g l = (text : Text) → HasTaken g.row.W g.F.Family.Reads l.initial.reader text
    → HasPart g.row.W g.F.Family.Reads l.reader l.piece l.rest text
