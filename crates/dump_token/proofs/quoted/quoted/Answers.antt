use Rattle.std.proofs.Common.{arith}
use Rattle.dump_token.proofs.Reading.{plain, escaped_to, closed, cut_off}
use Rattle.dump_token.proofs.quoted.quoted.Goals as goal

pub returns-then-line-n-eq34-clause-found : goal.returns-then-line-n-eq34-clause-found
returns-then-line-n-eq34-clause-found c =
    rw c.of.ensures (closed c.args.line.now c.loop-n.text.items c.loop-n.n c.loop-n.invariant c.loop-n-test.true c.if-line-n-eq34.true)

pub returns-then-n-line-clause-none : goal.returns-then-n-line-clause-none
returns-then-n-line-clause-none c =
    cut_off c.args.line.now c.loop-n.text.items c.loop-n.n c.loop-n.invariant c.if-n-line.true c.if-line-n-eq92.true

pub loop-n-preserved-then-line-n-eq92 : goal.loop-n-preserved-then-line-n-eq92
loop-n-preserved-then-line-n-eq92 c =
    escaped_to c.args.line.now c.loop-n.text.items c.push.new.self.items c.loop-n.n c.in_ok-push.ensures.items c.loop-n.invariant
    (omega (arith, c.if-n-line.false, c.loop-n-test.true)) c.if-line-n-eq92.true

pub loop-n-preserved : goal.loop-n-preserved
loop-n-preserved c =
    rw c.in_ok-push-2.ensures.items
    (plain c.args.line.now c.loop-n.text.items c.loop-n.n c.loop-n.invariant c.loop-n-test.true c.if-line-n-eq34.false c.if-line-n-eq92.false)
