-- What a line says of the state.
use Rattle.std.proofs.Common.{◌≡◌, ℕ, ◌<◌, ◌==◌, [], ◌∷◌, Bool, true, false, refl, sym, ◌∙◌, ap, arith}
use Rattle.std.specs.Prelude.{if◌then◌else◌}
use Rattle.std.proofs.lemmas.Bool.Decides.{nat_tests}
use Rattle.std.proofs.lemmas.Nat.Bits.{bit_at_ones}
use Rattle.primitives.specs.declared.prim.Packet.{Packet}
use Rattle.primitives.specs.declared.prim.Prim_.{Prim_}
use Rattle.primitives.specs.Holds.{has_bit, holds_of}
use Rattle.fw_rule.specs.Walk.{doubt_in}
use Rattle.printed_filter.specs.Literals.{yes, state_literals}
use Rattle.printed_filter.proofs.Facts.{facts, one_fact}

has_each : (states x : ℕ) → states ≡ 31 → x < 5 → has_bit states x ≡ true
has_each states x e l = ap (λ s. has_bit s x) e ∙ ap (λ b. b == 1) (bit_at_ones 5 x l)

module _ (W : ℕ) (p : Packet) (small : p.state < 5) where
  by_all : (states : ℕ) (b : Bool) → (states == 31) ≡ b →
      facts (holds_of {W = W}) p (if b then [] else yes (Prim_.State states) ∷ []) ≡ has_bit states p.state
  by_all states true e = let all : states ≡ 31 = grind (arith, nat_tests, e) in sym (has_each states p.state all small)
  by_all states false e = one_fact (holds_of {W = W}) p (Prim_.State states)

  pub state_meets : (states : ℕ) → facts (holds_of {W = W}) p (state_literals states) ≡ has_bit states p.state
  state_meets states = by_all states (states == 31) refl

module _ (W : ℕ) where
  known_by : (states : ℕ) (b : Bool) → doubt_in (if b then [] else yes {W = W} (Prim_.State states) ∷ []) ≡ false
  known_by states true = refl
  known_by states false = refl

  pub state_known : (states : ℕ) → doubt_in (state_literals {W = W} states) ≡ false
  state_known states = known_by states (states == 31)
