use Rattle.std.proofs.Common.{◌≡◌, ◌++◌, ◌-◌}
use Rattle.dump_print.specs.Numbers.{numbers_from}
use Rattle.dump_print.proofs.helpers.push_numbers.Given as goal

abbrev pub invariant-loop-number : goal.invariant-loop-number
invariant-loop-number l = l.numbers.items ≡ l.fn.numbers.items ++ numbers_from l.fn.range.lo (l.number - l.fn.range.lo)
