use Rattle.std.proofs.Common.{◌-◌, length}
use Rattle.dump_token.proofs.Reading.{Reads}
use Rattle.dump_token.proofs.quoted.quoted.Given as goal

abbrev pub decreases-loop-n : goal.decreases-loop-n
decreases-loop-n l = length l.line - l.n

-- what was read, followed by any reading of what is left, is a reading of the whole, and each reading of the whole is of this kind
abbrev pub invariant-loop-n : goal.invariant-loop-n
invariant-loop-n l = Reads l.line l.text.items l.n
