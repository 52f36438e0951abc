use Rattle.std.proofs.Common.{◌∙◌, ap, drop, inl, inr}
use Rattle.interval_set.proofs.Cuts.{Cut, cut_on_at, cut_off_at, cut_done, uncut, done_at, done_past}
use Rattle.interval_set.proofs.Lists.{Ascends-drop}
use Rattle.interval_set.proofs.passes.cut_out.Goals as goal
use Rattle.interval_set.proofs.passes.cut_out.Goals.{then-lo-y+in_ok-push, else-lo-y, then-loop-j-test+else-b-j, else-loop-j-test}

pub loop-j-init : goal.loop-j-init
loop-j-init g c =
    uncut g.row.W c.args.out.now.items c.args.x (drop c.args.from c.args.b.now) c.requires.set
    (Ascends-drop _ _ c.args.from c.args.b.now c.requires.b_set.1) c.requires.later c.requires.ordered c.requires.in_range

cut : (g : _) (c : goal.Then-x-y g) → Cut g.row.W c.args.out.now.items c.args.x (drop c.args.from c.args.b.now) (drop c.loop-j.j c.args.b.now) c.if-lo-y.out.items
cut g c =
    cut_off_at g.row.W c.args.out.now.items c.args.x (drop c.args.from c.args.b.now) c.args.b.now c.loop-j.j c.loop-j.lo c.loop-j.out.items c.if-lo-y.out.items
    c.loop-j-test.true c.loop-j.invariant c.if-b-j.true
    (elim c.if-lo-y.branch [
      | then-lo-y+in_ok-push w ↦ inl (w.if-lo-y.true, ap (λ v. v.items) w.out-is ∙ w.in_ok-push.ensures.items)
      | else-lo-y w ↦ inr (w.if-lo-y.false, ap (λ v. v.items) w.out-is)
    ])
    c.if-x-y.true

pub returns-then-x-y-clause-numbers : goal.returns-then-x-y-clause-numbers
returns-then-x-y-clause-numbers g c = (cut g c).numbers

pub returns-then-x-y-clause-set : goal.returns-then-x-y-clause-set
returns-then-x-y-clause-set g c = (cut g c).set

pub returns-then-x-y-clause-last : goal.returns-then-x-y-clause-last
returns-then-x-y-clause-last g c = (cut g c).gap

pub loop-j-preserved : goal.loop-j-preserved
loop-j-preserved g c =
    let k = cut_on_at g.row.W c.args.out.now.items c.args.x (drop c.args.from c.args.b.now) c.args.b.now c.loop-j.j c.loop-j.lo c.loop-j.out.items c.if-lo-y.out.items
    c.loop-j-test.true c.loop-j.invariant c.if-b-j.true
    (elim c.if-lo-y.branch [
      | then-lo-y+in_ok-push w ↦ inl (w.if-lo-y.true, ap (λ v. v.items) w.out-is ∙ w.in_ok-push.ensures.items)
      | else-lo-y w ↦ inr (w.if-lo-y.false, ap (λ v. v.items) w.out-is)
    ])
    c.if-x-y.false in
    rw c.max-lo.ensures k

done : (g : _) (c : goal.In_ok-push-2 g) → Cut g.row.W c.args.out.now.items c.args.x (drop c.args.from c.args.b.now) (drop c.loop-j.j c.args.b.now) c.push-2.new.self.items
done g c =
    rw c.in_ok-push-2.ensures.items (cut_done g.row.W c.args.out.now.items c.args.x _ (drop c.loop-j.j c.args.b.now) c.loop-j.lo c.loop-j.out.items c.loop-j.invariant
    (elim c.loop-j-test.branch [
      | then-loop-j-test+else-b-j w ↦ done_at g.row.W c.args.x.hi c.loop-j.j c.args.b.now c.loop-j.invariant.left w.loop-j-test.true w.if-b-j.false
      | else-loop-j-test w ↦ done_past g.row.W c.args.x.hi c.loop-j.j c.args.b.now w.loop-j-test.false
    ]))

pub returns-clause-numbers : goal.returns-clause-numbers
returns-clause-numbers g c = (done g c).numbers

pub returns-clause-set : goal.returns-clause-set
returns-clause-set g c = (done g c).set

pub returns-clause-last : goal.returns-clause-last
returns-clause-last g c = (done g c).gap
