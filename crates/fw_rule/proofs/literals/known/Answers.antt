use Rattle.std.proofs.Common.{◌≡◌, IsTrue, ◌↔◌, arith, ap, sym, subst, ◌∙◌}
use Rattle.std.proofs.lemmas.Grind.{common_steps}
use Rattle.match_expr.specs.Meaning.{eval_of}
use Rattle.match_expr.specs.declared.expr.Expr.{Expr}
use Rattle.match_expr.specs.declared.expr.Expr.TheVariants.{All}
use Rattle.fw_rule.specs.Matching.{known_in, known_of, EachKnownHolds}
use Rattle.fw_rule.proofs.KnownLemmas.{known_means}
use Rattle.fw_rule.proofs.literals.known.Goals as goal

pub returns-clause-means : goal.returns-clause-means
returns-clause-means g c p =
    let parts : c.loop-lit.parts.items ≡ known_in c.args.rule.now.lits = grind (arith, common_steps) in
    let is : known_of c.args.rule.now ≡ All c.from_vec.result = ap All (sym (c.from_vec.ensures ∙ parts)) in
    subst (λ (e : Expr _). IsTrue (eval_of (λ x. g.P.Primitive.meaning x p) e) ↔ EachKnownHolds g.P.Primitive.meaning p c.args.rule.now) is
    (known_means g.P.Primitive.meaning p c.args.rule.now)
