use Rattle.basics.proofs.Truths.{clash}
use Rattle.dump_read.proofs.TakeLemmas.{pass_commit, pass_other}
use Rattle.dump_read.proofs.steps.pass_line.Goals as goal

pub returns-then-is_commit : goal.returns-then-is_commit
returns-then-is_commit g c found n s =
    pass_commit g.row.W g.F.Family.Reads c.args.state.now found n c.args.line.now (c.is_commit.ensures.0 c.if-is_commit.true) s

pub returns-else-is_commit : goal.returns-else-is_commit
returns-else-is_commit g c found n s =
    pass_other g.row.W g.F.Family.Reads c.args.state.now found n c.args.line.now
    (λ is. clash c.is_commit.result (c.is_commit.ensures.1 is) c.if-is_commit.false) s
