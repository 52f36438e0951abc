-- What hiding does to the walks.
use Rattle.std.specs.Prelude.{ℕ, ◌≡◌, Bool, false}
use Rattle.match_expr.specs.declared.expr.Expr.{Expr}
use Rattle.fw_rule.specs.declared.rule.Verdict.{Verdict}
use Rattle.fw_rule.specs.declared.rule.Dump.{Dump}
use Rattle.fw_rule.specs.Walk.{Meaning, Walks, May, Must, hidden_by}

module _ {P : Type 0} (dump : Dump P) where
  -- where the test of what is hidden is never true the dump stays as it is
  abbrev pub NothingHidden : Type 0
  NothingHidden = (hides : Expr P → Bool) → ((expr : Expr P) → hides expr ≡ false) → hidden_by hides dump ≡ dump

  module _ {Packet : Type 0} (holds : P → Packet → Bool) (chain : ℕ) (p : Packet) where
    -- each verdict of a walk is, whatever is hidden, the verdict of some walk of the hidden dump
    abbrev pub VerdictsStay : Type 0
    VerdictsStay = (hides : Expr P → Bool) (m : Meaning) (v : Verdict) → Walks holds dump p m chain v → (w : Meaning) × Walks holds (hidden_by hides dump) p w chain v

    -- what may be accepted may be accepted after something is hidden, whatever it is
    abbrev pub MayWidens : Type 0
    MayWidens = (hides : Expr P → Bool) → May holds dump chain p → May holds (hidden_by hides dump) chain p

    -- what must be accepted after something is hidden must be accepted before
    abbrev pub MustNarrows : Type 0
    MustNarrows = (hides : Expr P → Bool) → Must holds (hidden_by hides dump) chain p → Must holds dump chain p
