use Rattle.std.proofs.Common.{drop}
use Rattle.std.specs.Option.{option_copied}
use Rattle.name_set.proofs.Next.{Sees}
use Rattle.name_set.proofs.least.next_name.Given as goal

abbrev pub invariant-loop-pattern : goal.invariant-loop-pattern
invariant-loop-pattern l = Sees l.text l.patterns (option_copied l.last) (option_copied l.next) (drop l.pattern-index l.patterns)
