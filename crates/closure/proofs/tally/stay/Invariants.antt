use Rattle.std.proofs.Common.{◌≡◌, ◌+◌, ◌-◌, ◌^◌, ◌≤◌, drop}
use Rattle.closure.specs.inner.Counts.{capped}
use Rattle.closure.specs.inner.Ways.{stayed}
use Rattle.closure.proofs.tally.stay.Given as goal

abbrev pub invariant-loop-way : goal.invariant-loop-way
invariant-loop-way l = record {
  counted : capped (l.count + stayed l.literals (drop l.way-index l.inner)) ≡ capped (stayed l.literals l.inner);
  small : l.count ≤ 2 ^ 64 - 1;
}
