use Rattle.std.proofs.Common.{◌+◌, ◌∙◌, ap, sym, drop}
use Rattle.explain.proofs.Literals.{known_hold, one_fails, one_holds, drop_lit}
use Rattle.explain.proofs.views.known_holds.Goals as goal

pub returns-then-not-may_hold : goal.returns-then-not-may_hold
returns-then-not-may_hold g c =
    let h = g.P.Primitive.meaning in
    let from = drop_lit c.as_slice-lit-items.result.now c.loop-lit.lit-index c.lit-item.result c.loop-lit-test.true c.lit-item.is in
    let fails = one_fails h c.args.p.now c.lit-item.result (drop (c.loop-lit.lit-index + 1) c.as_slice-lit-items.result.now) (sym c.may_hold.ensures ∙ c.if-not-may_hold.true) in
    sym fails ∙ ap (known_hold h c.args.p.now) (sym from) ∙ c.loop-lit.invariant

pub loop-lit-preserved : goal.loop-lit-preserved
loop-lit-preserved g c =
    let h = g.P.Primitive.meaning in
    let from = drop_lit c.as_slice-lit-items.result.now c.loop-lit.lit-index c.lit-item.result c.loop-lit-test.true c.lit-item.is in
    let holds = one_holds h c.args.p.now c.lit-item.result (drop (c.loop-lit.lit-index + 1) c.as_slice-lit-items.result.now) (sym c.may_hold.ensures ∙ c.if-not-may_hold.false) in
    holds ∙ ap (known_hold h c.args.p.now) (sym from) ∙ c.loop-lit.invariant
