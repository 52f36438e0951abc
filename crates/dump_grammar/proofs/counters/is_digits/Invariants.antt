use Rattle.std.proofs.Common.{ℕ, ◌<◌, slice_index}
use Rattle.dump_grammar.specs.ChainLines.{IsDigit}
use Rattle.dump_grammar.proofs.counters.is_digits.Given as goal

abbrev pub invariant-loop-b : goal.invariant-loop-b
invariant-loop-b l = (k : ℕ) → k < l.b-index → IsDigit (slice_index l.text k)
