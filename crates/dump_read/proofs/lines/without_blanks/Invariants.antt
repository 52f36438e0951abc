use Rattle.std.proofs.Common.{take}
use Rattle.dump_token.specs.Words.{AreBlanks}
use Rattle.dump_read.proofs.lines.without_blanks.Given as goal

abbrev pub invariant-loop-i : goal.invariant-loop-i
invariant-loop-i l = AreBlanks (take l.i l.line)
