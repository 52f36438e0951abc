use Rattle.std.proofs.Common.{ℕ, ◌≡◌, ◌<◌}
use Rattle.std.specs.Prelude.{Some, slice_get}
use Rattle.iface_space.specs.declared.hop.Hop.{Hop}
use Rattle.iface_space.proofs.routes.has_earlier_prefix.Given as goal

abbrev pub invariant-loop-i : goal.invariant-loop-i
invariant-loop-i l = (k : ℕ) (a b : Hop) → k < l.i → slice_get l.hops k ≡ Some a → slice_get l.hops l.at ≡ Some b →
    a.value ≡ b.value → a.len ≡ b.len → ⊥
