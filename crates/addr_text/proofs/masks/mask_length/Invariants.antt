use Rattle.std.proofs.Common.{◌≡◌, ℕ, ◌<◌}
use Rattle.addr_text.specs.Masks.{mask_of}
use Rattle.addr_text.proofs.masks.mask_length.Given as goal

abbrev pub invariant-loop-len : goal.invariant-loop-len
invariant-loop-len g l = (k : ℕ) → k < l.len → l.bits ≡ mask_of g.row.W k → ⊥
