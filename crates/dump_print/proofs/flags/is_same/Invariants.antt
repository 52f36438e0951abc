use Rattle.std.proofs.Common.{◌≡◌, true}
use Rattle.dump_print.specs.Flags.{all_below}
use Rattle.dump_print.proofs.FlagLemmas.{same_at}
use Rattle.dump_print.proofs.flags.is_same.Given as goal

abbrev pub invariant-loop-n : goal.invariant-loop-n
invariant-loop-n l = all_below l.n (same_at l.numbers l.weight) ≡ true
