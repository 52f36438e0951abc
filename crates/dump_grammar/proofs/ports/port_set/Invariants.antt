use Rattle.std.proofs.Common.{◌≡◌, ℕ, take}
use Rattle.interval_set.specs.Numbers.{IsSet, has}
use Rattle.dump_grammar.proofs.ports.port_set.Given as goal

abbrev pub invariant-loop-range : goal.invariant-loop-range
invariant-loop-range l = record {
  numbers : (n : ℕ) → has l.ports n ≡ has (take l.range-index l.ranges) n;
  set : IsSet 16 l.ports;
}
