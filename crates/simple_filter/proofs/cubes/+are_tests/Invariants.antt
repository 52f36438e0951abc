use Rattle.std.proofs.Common.{◌≡◌, map, drop}
use Rattle.match_expr.specs.Meaning.{every}
use Rattle.simple_filter.specs.inner.Collected.{are_tests}
use Rattle.simple_filter.proofs.cubes.+are_tests.Given as goal

abbrev pub invariant-loop-part : goal.invariant-loop-part
invariant-loop-part g l = every (map are_tests (drop l.part-index l.part-items)) ≡ are_tests l.e
