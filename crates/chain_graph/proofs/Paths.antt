-- Call paths and what bounds them.
use Rattle.std.specs.Prelude.{ℕ, zero, suc, ◌+◌, ◌≤◌, ◌≡◌, List, [], ◌∷◌, length, refl}
use Rattle.std.proofs.Common.{arith, ap}
use Rattle.fw_rule.specs.declared.rule.Dump.{Dump}
use Rattle.fw_rule.specs.Calls.{Calls, Within, deep}
use Rattle.chain_graph.specs.Paths.{Follow, HasPath, IsRank}

module _ {P : Type 0} (dump : Dump P) where
  follow_bound : (d c : ℕ) (later : List ℕ) → Within dump d c → Follow dump c later → suc (length later) ≤ d
  follow_bound zero c later w f = elim w [ ]
  follow_bound (suc d) c [] w f = omega arith
  follow_bound (suc d) c (k ∷ ks) (deep g) f = let h = follow_bound d k ks (g k f.0) f.1 in omega (arith, h)

  -- no call path has more chains
  pub path_bound : (d c n : ℕ) → Within dump d c → HasPath dump c n → n ≤ d
  path_bound d c n w p = let h = follow_bound d c p.0 w p.1 in omega (arith, h, p.2)

  pub within_more : (d e c : ℕ) → d ≤ e → Within dump d c → Within dump e c
  within_more zero e c h w = elim w [ ]
  within_more (suc d) zero c h w = absurd (omega (arith, h))
  within_more (suc d) (suc e) c h (deep g) = deep (λ k q. within_more d e k (omega (arith, h)) (g k q))

  pub rank_of : (c r : ℕ) → Within dump r c → HasPath dump c r → IsRank dump c r
  rank_of c r w p = (p, λ n q. path_bound r c n w q)

  pub lone : (c : ℕ) → HasPath dump c 1
  lone c = ([], tt, refl)

  pub longer : (c k n : ℕ) → Calls dump c k → HasPath dump k n → HasPath dump c (suc n)
  longer c k n q p = (k ∷ p.0, (q, p.1), ap suc p.2)

  cut : (m c : ℕ) (later : List ℕ) → Follow dump c later → m ≤ length later → (short : List ℕ) × Follow dump c short × (m ≡ length short)
  cut zero c later f h = ([], tt, refl)
  cut (suc m) c [] f h = absurd (omega (arith, h))
  cut (suc m) c (k ∷ ks) f h = let s = cut m k ks f.1 (omega (arith, h)) in (k ∷ s.0, (f.0, s.1), ap suc s.2)

  -- a path of fewer chains
  pub shorter : (c m n : ℕ) → m + 1 ≤ n → HasPath dump c n → HasPath dump c (m + 1)
  shorter c m n h p = let s = cut m c p.0 p.1 (omega (arith, h, p.2)) in (s.0, s.1, omega (arith, s.2))
