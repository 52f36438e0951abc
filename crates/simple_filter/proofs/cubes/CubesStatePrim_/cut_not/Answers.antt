use Rattle.std.proofs.Common.{◌∙◌, ap, length, subst, sym, arith}
use Rattle.std.proofs.lemmas.Bool.Decides.{nat_tests}
use Rattle.basics.proofs.Truths.{clash}
use Rattle.match_expr.specs.declared.expr.Expr.TheVariants.{Not}
use Rattle.box_norm.specs.Cuts.{cuts_by}
use Rattle.box_norm.specs.Regular.{AreRegular}
use Rattle.simple_filter.proofs.CutInTurn.{cuts_long}
use Rattle.simple_filter.proofs.EmptyCuts.{empty_list, stays}
use Rattle.simple_filter.proofs.ShortCuts.{few_answered}
use Rattle.simple_filter.proofs.cubes.CubesStatePrim_.cut_not.Goals as goal
use Rattle.simple_filter.proofs.cubes.CubesStatePrim_.cut_not.Goals.{then-self-via-then-self, then-self-via-else-self+then-is_empty}

pub returns-then-self : goal.returns-then-self
returns-then-self g c =
    c.without_cubes.ensures ∙ stays g.row.W c.self.inside.is_over c.self.inside.list c.args.self.now c.self.view_is (elim c.then-self.branch [
      | then-self-via-then-self w ↦ λ off. absurd (clash c.self.inside.is_over w.if-self.true off)
      | then-self-via-else-self+then-is_empty w ↦ λ off. empty_list c.self.inside.list (sym (ap length w.as_slice.ensures) ∙ grind (arith, nat_tests, w.if-is_empty.true, w.is_empty.ensures))
    ]) (Not c.args.e.now)

pub left_of-requires : goal.left_of-requires
left_of-requires g c = (
  omega arith,
  (
    omega arith,
    few_answered g.row.W ((cuts_by {W = g.row.W} c.args.e.now).omit c.as_slice-2.result.now) c.cut_not_list.result c.cut_not_list.ensures.answers
        ((cuts_long g.row.W c.args.e.now).omit c.as_slice-2.result.now)
        (c.cut_not_list.ensures.regular (subst AreRegular (sym c.as_slice-2.ensures) c.self.invariant.regular)),
  ),
)
