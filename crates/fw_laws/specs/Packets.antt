-- Packets that the known literals don't tell apart.
use Rattle.std.specs.Prelude.{ℕ, ◌≡◌, ◌↔◌, Bool, [], Contains}
use Rattle.match_expr.specs.Meaning.{eval_of}
use Rattle.match_expr.specs.declared.expr.Expr.{Expr}
use Rattle.fw_rule.specs.declared.rule.Lit.{Lit}
use Rattle.fw_rule.specs.declared.rule.Rule.{Rule}
use Rattle.fw_rule.specs.declared.rule.Dump.{Dump}
use Rattle.fw_rule.specs.Walk.{Meaning, At, policy_of, after, RuleOf, Reaches, May, Must}

module _ {P Packet : Type 0} (holds : P → Packet → Bool) (dump : Dump P) (asked : ℕ) (p q : Packet) where
  -- the known literals of the rules that are reached hold of both packets or of neither
  abbrev pub KnownAlike : Type 0
  KnownAlike = (chain : ℕ) (rule : Rule P) (neg : Bool) (expr : Expr P) → Reaches dump asked chain → RuleOf dump chain rule → Contains rule.lits (Lit.Known neg expr) →
      eval_of (λ x. holds x p) expr ≡ eval_of (λ x. holds x q) expr

  -- under each meaning both have the same walk
  abbrev pub SameWalk : Type 0
  SameWalk = KnownAlike → (m : Meaning) (k : ℕ) →
      after holds dump p m (policy_of dump asked) k (At asked 0 [] [])
      ≡ after holds dump q m (policy_of dump asked) k (At asked 0 [] [])

  -- both or neither may be accepted, and both or neither must be
  abbrev pub SameAnswers : Type 0
  SameAnswers = KnownAlike → (May holds dump asked p ↔ May holds dump asked q) × (Must holds dump asked p ↔ Must holds dump asked q)
