use Rattle.std.proofs.Common.{◌≡◌, take}
use Rattle.dump_print.specs.Numbers.{numbers_of}
use Rattle.dump_print.proofs.helpers.lacking_numbers.Given as goal

abbrev pub invariant-loop-range : goal.invariant-loop-range
invariant-loop-range l = l.numbers.items ≡ numbers_of (take l.range-index l.range-items)
