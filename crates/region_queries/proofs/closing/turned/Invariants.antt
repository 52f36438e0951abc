use Rattle.std.proofs.Common.{◌≡◌, ◌++◌, map}
use Rattle.region_queries.specs.Search.{turned}
use Rattle.region_queries.proofs.closing.turned.Given as goal

abbrev pub invariant-loop-rule : goal.invariant-loop-rule
invariant-loop-rule g l = l.all.items ++ map turned l.rule-iterator.rest.items ≡ map turned l.fn.rules
