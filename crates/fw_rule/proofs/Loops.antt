-- Where no call path from a chain is too deep, no chain that it reaches calls itself.
use Rattle.std.specs.Prelude.{ℕ, zero, suc, ◌≤◌}
use Rattle.std.proofs.Common.{arith}
use Rattle.fw_rule.specs.declared.rule.Dump.{Dump}
use Rattle.fw_rule.specs.Calls.{Calls, Reaches, Here, Over, Within, deep}

module _ {P : Type 0} (dump : Dump P) where
  -- a chain that is reached is no deeper
  pub sinks : (d b a : ℕ) → Within dump d b → Reaches dump b a → (e : ℕ) × (e ≤ d) × Within dump e a
  sinks d b a w Here = (d, omega arith, w)
  sinks zero b a w (Over {b = k} q r) = elim w [ ]
  sinks (suc d) b a (deep f) (Over {b = k} q r) = let s = sinks d k a (f k q) r in (s.0, omega (arith, s.1), s.2)

  rounds : (n d a b : ℕ) → d ≤ n → Within dump d a → Calls dump a b → Reaches dump b a → ⊥
  rounds n zero a b h w q r = elim w [ ]
  rounds zero (suc d) a b h w q r = absurd (omega (arith, h))
  rounds (suc n) (suc d) a b h (deep f) q r = let s = sinks d b a (f b q) r in rounds n s.0 a b (omega (arith, h, s.1)) s.2 q r

  -- a chain of bounded depth doesn't come back to itself
  pub no_round : (d c a b : ℕ) → Within dump d c → Reaches dump c a → Calls dump a b → Reaches dump b a → ⊥
  no_round d c a b w there q r = let s = sinks d c a w there in rounds s.0 s.0 a b (omega arith) s.2 q r
