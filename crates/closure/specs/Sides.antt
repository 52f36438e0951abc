-- What a closed list promises.
use Rattle.std.specs.Prelude.{ℕ, ◌≡◌, ◌↔◌, Bool, true, false, List, unwrap_or}
use Rattle.match_expr.specs.FirstMatch.{first_match}
use Rattle.match_expr.specs.declared.expr.FlatRule.{FlatRule}
use Rattle.fw_rule.specs.declared.rule.Dump.{Dump}
use Rattle.fw_rule.specs.declared.rule.Verdict.{Verdict}
use Rattle.fw_rule.specs.declared.rule.Rule.{Rule}
use Rattle.fw_rule.specs.declared.side.Side.{Side}
use Rattle.fw_rule.specs.Walk.{is_accept, IsAccepted, RuleOf, Reaches}
use Rattle.fw_rule.specs.Matching.{doubt_in}

-- with the policy at its end, the list accepts exactly what may (Upper) or must (Lower) be accepted
abbrev pub ClosesTo : {P Packet : Type 0} → (P → Packet → Bool) → Side → Dump P → ℕ → Verdict → List (FlatRule P) → Type 0
ClosesTo {P} {Packet} holds side dump chain policy rules =
    (p : Packet) → (unwrap_or (first_match (λ x. holds x p) rules) (is_accept policy) ≡ true) ↔ IsAccepted holds side dump chain p

-- no reachable rule is doubtful
abbrev pub IsSure : {P : Type 0} → Dump P → ℕ → Type 0
IsSure {P} dump chain = (c : ℕ) (rule : Rule P) → Reaches dump chain c → RuleOf dump c rule → doubt_in rule.lits ≡ false
