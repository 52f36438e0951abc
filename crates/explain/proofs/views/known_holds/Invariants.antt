use Rattle.std.proofs.Common.{◌≡◌, drop}
use Rattle.match_expr.specs.Meaning.{eval_of}
use Rattle.fw_rule.specs.Walk.{known_of}
use Rattle.explain.proofs.Literals.{known_hold}
use Rattle.explain.proofs.views.known_holds.Given as goal

abbrev pub invariant-loop-lit : goal.invariant-loop-lit
invariant-loop-lit g l = known_hold g.P.Primitive.meaning l.p (drop l.lit-index l.lit-items) ≡ eval_of (λ x. g.P.Primitive.meaning x l.p) (known_of l.rule)
