use Rattle.std.proofs.Common.{◌≡◌, drop}
use Rattle.name_set.specs.Names.{some_covers}
use Rattle.region_cut.proofs.apart.one_covers.Given as goal

abbrev pub invariant-loop-pattern : goal.invariant-loop-pattern
invariant-loop-pattern l = some_covers (drop l.pattern-index l.patterns) l.other ≡ some_covers l.patterns l.other
