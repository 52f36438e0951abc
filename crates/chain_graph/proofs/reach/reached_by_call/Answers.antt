use Rattle.std.proofs.Common.{◌≡◌, ◌∙◌, ℕ, List, Bool, false, length, drop, arith, ap, sym, subst}
use Rattle.std.proofs.Math.ListN.{replicate}
use Rattle.chain_graph.specs.inner.Spreading.{Spread, IsCalled}
use Rattle.chain_graph.proofs.Marking.{Flood, start, turn, filled, written, emptied, next_inside, callee_inside}
use Rattle.chain_graph.proofs.reach.reached_by_call.Goals as goal

pub loop-next-init : goal.loop-next-init
loop-next-init g c = start c.args.dump.now c.args.chain c.in_ok-marks.marks.items c.in_ok-todo.todo.items
    (c.in_ok-marks.ensures.items_if_clones_equal (λ y e. e) ∙ ap (λ (n : ℕ). replicate n false) (ap length c.as_slice.ensures)) c.in_ok-todo.ensures.items

pub rules_of-requires : goal.rules_of-requires
rules_of-requires g c = next_inside c.args.dump.now c.requires.named c.args.chain c.in-Some.next c.loop-next.marks.items c.loop-next.todo.items c.pop.new.self.items c.in-Some.ensures.items c.requires.there c.loop-next.invariant

pub mark_callees-requires : goal.mark_callees-requires
mark_callees-requires g c k q =
    let h = callee_inside c.args.dump.now c.requires.named c.in-Some.next c.rules_of.result.now c.rules_of.ensures k q in
    omega (arith, h, c.loop-next.invariant.long, ap length c.deref_mut.ensures.value)

pub loop-next-preserved : goal.loop-next-preserved
loop-next-preserved g c =
    let s = c.in_ok-mark_callees.ensures in
    let e : length c.mark_callees.new.marks ≡ c.loop-next.marks.len = omega (arith, s.long, c.deref_mut.ensures.len) in
    subst (λ (z : List Bool). Flood c.args.dump.now c.args.chain z c.mark_callees.new.todo.items) (sym (written c.loop-next.marks.len c.mark_callees.new.marks (drop (length c.mark_callees.new.marks) c.loop-next.marks.items) e))
    (turn c.args.dump.now c.args.chain c.in-Some.next c.rules_of.result.now c.loop-next.marks.items c.loop-next.todo.items c.pop.new.self.items c.mark_callees.new.marks c.mark_callees.new.todo.items
    c.in-Some.ensures.items c.rules_of.ensures c.loop-next.invariant
    (subst (λ (z : List Bool). Spread (IsCalled c.rules_of.result.now) z c.pop.new.self.items c.mark_callees.new.marks c.mark_callees.new.todo.items) c.deref_mut.ensures.value s))

pub returns-clause-is : goal.returns-clause-is
returns-clause-is g c = filled c.args.dump.now c.args.chain c.loop-next.marks.items c.loop-next.todo.items
    (emptied c.loop-next.todo.items c.pop.new.self.items c.loop-next.todo.len c.in_default.ensures.items c.in_default.ensures.rest (c.in_default.ensures.cases).0) c.loop-next.invariant
