use Rattle.std.proofs.Common.{◌≡◌, ℕ, true, subst, sym}
use Rattle.std.proofs.Math.ListN.{set}
use Rattle.chain_graph.specs.inner.Spreading.{Spread}
use Rattle.chain_graph.proofs.Marking.{newly}
use Rattle.chain_graph.proofs.reach.mark.Goals as goal

pub returns : goal.returns
returns c = subst (Spread (λ (k : ℕ). c.args.chain ≡ k) c.args.marks.now c.args.todo.now.items (set c.args.marks.now c.args.chain true)) (sym c.in_ok-push.ensures.items)
    (newly c.args.chain c.args.marks.now c.args.todo.now.items c.requires c.if-marks-chain.false)
