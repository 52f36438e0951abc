use Rattle.std.proofs.Common.{◌≡◌, ◌++◌, List, ℕ, length}
use Rattle.dump_read.specs.Pieces.{StandsFor}
use Rattle.reader_trial.proofs.text_tests.shown_in_pieces.Given as goal

abbrev pub decreases-loop-rest : goal.decreases-loop-rest
decreases-loop-rest g l = length l.rest

abbrev pub invariant-loop-rest : goal.invariant-loop-rest
invariant-loop-rest g l = (front : List ℕ) × ((l.text ≡ front ++ l.rest) × StandsFor g.row.W g.F.Family.Reads l.reading front)
