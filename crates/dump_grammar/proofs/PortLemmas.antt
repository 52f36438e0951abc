-- A range of ports is parted at its colon.
use Rattle.std.proofs.Common.{◌≡◌, ◌≢◌, ◌∙◌, ◌<◌, ◌≤◌, ◌^◌, ◌++◌, ◌∷◌, inl, inr, Option, Some, None, IfNone, [], ℕ, arith, sym, subst, decimal, ap, lit≤}
use Rattle.interval_set.specs.declared.set.Range.{Range}
use Rattle.basics.specs.Parts.{Lacks}
use Rattle.basics.proofs.PartingLemmas.{decimal_lacks as number_lacks, one_parting, lacks_none}
use Rattle.dump_grammar.specs.Arguments.{IsPortRange}
use Rattle.dump_grammar.specs.Lines.{Text}

pub decimal_lacks : (n : ℕ) → n < 2 ^ 64 → Lacks 58 (decimal n)
decimal_lacks n small = number_lacks 58 n (lit≤ tt) small

-- a text without a colon is one port
pub port_alone : (text : Text) (r : Range) → Lacks 58 text → IsPortRange text r → (text ≡ decimal r.hi) × (r.hi ≤ 65535)
port_alone text r lacks (small, inl (is, same)) = (is ∙ ap decimal same, omega (arith, small))
port_alone text r lacks (small, inr (is, ordered)) = absurd (lacks_none 58 text (decimal r.lo) (decimal r.hi) lacks is)

-- a text with a colon is the two ports around it
pub port_ends : (text front back : Text) (r : Range) → text ≡ front ++ 58 ∷ back → Lacks 58 front → IsPortRange text r
    → (front ≡ decimal r.lo) × (back ≡ decimal r.hi) × (r.lo ≤ r.hi) × (r.hi ≤ 65535)
port_ends text front back r split lacks (small, inl (is, same)) =
    absurd (lacks_none 58 text front back (subst (Lacks 58) (sym is) (decimal_lacks r.lo (omega (arith, small, same)))) split)
port_ends text front back r split lacks (small, inr (is, ordered)) =
    let parts = one_parting 58 text front back (decimal r.lo) (decimal r.hi) lacks (decimal_lacks r.lo (omega (arith, small, ordered))) split is in
    (parts.0, parts.1, ordered, omega (arith, small))

pub no_port : (text : Text) (result : Option Range) → Lacks 58 text → IfNone result ((n : ℕ) → n ≤ 65535 → text ≡ decimal n → ⊥)
    → IfNone result ((r : Range) → IsPortRange text r → ⊥)
no_port text (Some r) lacks none = tt
no_port text None lacks none = λ r is. let alone = port_alone text r lacks is in none r.hi alone.1 alone.0
