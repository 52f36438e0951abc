use Rattle.std.proofs.Common.{◌≡◌, ◌==◌, drop}
use Rattle.match_expr.specs.FirstMatch.{first_match}
use Rattle.closure_trial.proofs.trial.first_verdict.Given as goal

abbrev pub invariant-loop-rule : goal.invariant-loop-rule
invariant-loop-rule l = first_match (λ x. x.0 == l.p) (drop l.rule-index l.rules) ≡ first_match (λ x. x.0 == l.p) l.rules
