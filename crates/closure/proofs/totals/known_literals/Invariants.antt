use Rattle.std.proofs.Common.{◌≡◌, ◌+◌, ◌-◌, ◌^◌, ◌≤◌, map, drop}
use Rattle.match_expr.specs.Meaning.{sum_of}
use Rattle.closure.specs.inner.Counts.{capped}
use Rattle.closure.specs.inner.Totals.{lit_count}
use Rattle.closure.proofs.totals.known_literals.Given as goal

abbrev pub invariant-loop-lit : goal.invariant-loop-lit
invariant-loop-lit g l = record {
  counted : capped (l.count + sum_of (map lit_count (drop l.lit-index l.lit-items))) ≡ capped (sum_of (map lit_count l.rule.lits));
  small : l.count ≤ 2 ^ 64 - 1;
}
