use Rattle.std.proofs.Common.{◌∙◌, ◌++◌, ◌∷◌, [], true, ap, length, subst, arith}
use Rattle.simple_filter.specs.inner.Collected.{HasTaken, cut_by}
use Rattle.simple_filter.proofs.Takings.{is_none, is_some, taken_settled, taken_unseen, taken_over, taken_full, taken_more}
use Rattle.simple_filter.proofs.collecting.CollectedSinkPrim_Cubes.put_cut.Goals as goal
use Rattle.simple_filter.proofs.collecting.CollectedSinkPrim_Cubes.put_cut.Goals.{then-self-3-via-then-self-3, then-self-3-via-else-self-3+then-len-gt-MOST_RULES}

pub returns-then-self : goal.returns-then-self
returns-then-self g c xs h = taken_settled c.args.self.now.rules.items c.args.self.now.is_full c.args.self.now.has_boxes c.if-self.true xs ((cut_by {W = g.row.W} c.args.state.now c.args.e.now, c.args.accept) ∷ []) h

pub returns-then-stay_few : goal.returns-then-stay_few
returns-then-stay_few g c xs h = taken_unseen c.args.self.now.rules.items c.args.self.now.is_full c.args.self.now.has_boxes xs h c.args.accept c.if-self-2.true (cut_by {W = g.row.W} c.args.state.now c.args.e.now) (c.stay_few.ensures c.if-stay_few.true)

pub returns-then-is_over : goal.returns-then-is_over
returns-then-is_over g c xs h = subst (λ z. HasTaken c.args.self.now.rules.items c.args.self.now.is_full true (xs ++ (z, c.args.accept) ∷ []))
    (is_none c.list.inside.is_over c.list.inside.list (cut_by {W = g.row.W} c.args.state.now c.args.e.now) (c.list.view_is ∙ c.in_ok-list.ensures) c.if-is_over.true)
    (taken_over c.args.self.now.rules.items c.args.self.now.is_full c.args.self.now.has_boxes xs h c.args.accept)

pub returns-then-self-3 : goal.returns-then-self-3
returns-then-self-3 g c xs h = subst (λ z. HasTaken c.args.self.now.rules.items true c.args.self.now.has_boxes (xs ++ (z, c.args.accept) ∷ []))
    (is_some c.list.inside.is_over c.list.inside.list (cut_by {W = g.row.W} c.args.state.now c.args.e.now) (c.list.view_is ∙ c.in_ok-list.ensures) c.if-is_over.false)
    (taken_full c.args.self.now.rules.items c.args.self.now.is_full c.args.self.now.has_boxes xs h c.args.accept c.list.inside.list (elim c.then-self-3.branch [
      | then-self-3-via-then-self-3 w ↦ λ f. absurd (grind (arith, f, w.if-self-3.true))
      | then-self-3-via-else-self-3+then-len-gt-MOST_RULES w ↦ λ f. omega (arith, w.if-len-gt-MOST_RULES.true, w.len.ensures, w.len-else-self-3.ensures, ap length c.into_vec-cubes.ensures)
    ]))

pub returns : goal.returns
returns g c xs h = subst (λ z. HasTaken c.push_rules.new.out.items c.args.self.now.is_full c.args.self.now.has_boxes (xs ++ (z, c.args.accept) ∷ []))
    (is_some c.list.inside.is_over c.list.inside.list (cut_by {W = g.row.W} c.args.state.now c.args.e.now) (c.list.view_is ∙ c.in_ok-list.ensures) c.if-is_over.false)
    (rw (c.in_ok-push_rules.ensures.rules, c.into_vec-cubes.ensures, c.if-self-3.false) (taken_more c.args.self.now.rules.items c.args.self.now.is_full c.args.self.now.has_boxes xs h c.args.accept c.list.inside.list c.if-self-3.false
    (omega (arith, c.if-len-gt-MOST_RULES.false, c.len.ensures, c.len-else-self-3.ensures, ap length c.into_vec-cubes.ensures)) c.list.invariant.regular
    (rw (← c.into_vec-cubes.ensures, ← c.in_ok-push_rules.ensures.rules) (c.in_ok-push_rules.ensures.sets h.sets))))
