use Rattle.std.specs.Option.{option_copied}
use Rattle.name_set.specs.Continuations.{left_count}
use Rattle.name_set.proofs.Search.{Tried}
use Rattle.name_set.proofs.least.least_longer.Given as goal

abbrev pub invariant-loop-name : goal.invariant-loop-name
invariant-loop-name l = Tried l.text l.patterns (option_copied l.last)

abbrev pub decreases-loop-name : goal.decreases-loop-name
decreases-loop-name l = left_count l.text (option_copied l.last) l.patterns
