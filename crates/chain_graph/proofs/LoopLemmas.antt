-- Numbers that never rise along calls, and chains that they show to be on no loop.
use Rattle.std.specs.Prelude.{ℕ, ◌+◌, ◌<◌, ◌≤◌, Bool, List, get_or}
use Rattle.std.proofs.Common.{arith, subst, inl, inr}
use Rattle.std.proofs.lemmas.Bool.{cases_eq}
use Rattle.fw_rule.specs.declared.rule.Rule.{Rule}
use Rattle.fw_rule.specs.declared.rule.Dump.{Dump}
use Rattle.fw_rule.specs.Calls.{Reaches, Here, Over}
use Rattle.fw_rule.proofs.Ends.{append}
use Rattle.chain_graph.specs.Faults.{IsLoop}
use Rattle.chain_graph.specs.Marks.{MarksAre, AreRulesOf}
use Rattle.chain_graph.specs.inner.Spreading.{NeverRises, IsCalled}
use Rattle.chain_graph.proofs.Marking.{called_by}

module _ {P : Type 0} (dump : Dump P) where
  module _ (asked : ℕ) (marks : List Bool) (numbers : List ℕ) (is : MarksAre (Reaches dump asked) marks) (falls : NeverRises dump marks numbers) where
    along : (a c : ℕ) → Reaches dump asked a → Reaches dump a c → get_or numbers c 0 ≤ get_or numbers a 0
    along a c reached Here = omega arith
    along a c reached (Over {b = k} q r) =
        let first : get_or numbers k 0 ≤ get_or numbers a 0 = falls a k ((is a).1 reached) q in
        let later = along k c (append dump reached q) r in
        omega (arith, first, later)

    -- a chain whose calls lead to lesser numbers doesn't come back to itself
    pub off_loops : (c : ℕ) (rules : List (Rule P)) → AreRulesOf dump c rules → ((k : ℕ) → IsCalled rules k → get_or numbers k 0 < get_or numbers c 0) → IsLoop dump asked c → ⊥
    off_loops c rules r below l =
        let k : ℕ = (l.1).0 in
        let down : get_or numbers k 0 < get_or numbers c 0 = below k (called_by dump c rules r k (l.1).1) in
        let back = along k c (append dump l.0 (l.1).1) (l.1).2 in
        absurd (omega (arith, down, back))

  -- one more chain that is on no loop
  pub one_off : (asked next : ℕ) → ((k : ℕ) → k < next → IsLoop dump asked k → ⊥) → (IsLoop dump asked next → ⊥) → (k : ℕ) → k < next + 1 → IsLoop dump asked k → ⊥
  one_off asked next before here k h l = elim (cases_eq k next) [
    | inl e ↦ here (subst (IsLoop dump asked) e l)
    | inr ne ↦ before k (omega (arith, h, ne)) l
  ]
