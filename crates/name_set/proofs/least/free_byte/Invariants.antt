use Rattle.std.proofs.Common.{◌≡◌, ℕ, ◌<◌, ◌∷◌, ◌++◌, [], false, true, ◌||◌, length, drop, slice_index_or}
use Rattle.name_set.specs.Names.{some_fits}
use Rattle.name_set.proofs.least.free_byte.Given as goal

abbrev pub invariant-loop-pattern : goal.invariant-loop-pattern
invariant-loop-pattern l = record {
  sized : length l.is_taken ≡ 256;
  marked : (b : ℕ) → b < 256 →
      (slice_index_or l.is_taken b false || some_fits (drop l.pattern-index l.patterns) (l.name ++ b ∷ [])) ≡ some_fits l.patterns (l.name ++ b ∷ []);
}

abbrev pub invariant-loop-byte : goal.invariant-loop-byte
invariant-loop-byte l = (k : ℕ) → k < l.byte → some_fits l.patterns (l.name ++ k ∷ []) ≡ true
