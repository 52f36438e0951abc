-- No address has a byte at which a text is parted.
use Rattle.std.proofs.Common.{◌≢◌, ℕ, List, arith, inl, inr}
use Rattle.addr_text.specs.Grammar.{IsAddressByte, IsPlain}
use Rattle.basics.specs.Parts.{Lacks}

-- what a part of an address is not
pub lacks_slash : (text : List ℕ) → IsPlain text → Lacks 47 text
lacks_slash text plain k d within = no_slash _ (plain.each k d within)
  where
    no_slash : (b : ℕ) → IsAddressByte b → b ≢ 47
    no_slash b (inl p) same = absurd (omega arith)
    no_slash b (inr (inl p)) same = absurd (omega arith)
    no_slash b (inr (inr (inl p))) same = absurd (omega arith)
    no_slash b (inr (inr (inr (inl p)))) same = absurd (omega arith)
    no_slash b (inr (inr (inr (inr p)))) same = absurd (omega arith)

pub lacks_dash : (text : List ℕ) → IsPlain text → Lacks 45 text
lacks_dash text plain k d within = no_dash _ (plain.each k d within)
  where
    no_dash : (b : ℕ) → IsAddressByte b → b ≢ 45
    no_dash b (inl p) same = absurd (omega arith)
    no_dash b (inr (inl p)) same = absurd (omega arith)
    no_dash b (inr (inr (inl p))) same = absurd (omega arith)
    no_dash b (inr (inr (inr (inl p)))) same = absurd (omega arith)
    no_dash b (inr (inr (inr (inr p)))) same = absurd (omega arith)
