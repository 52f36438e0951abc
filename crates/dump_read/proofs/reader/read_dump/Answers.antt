use Rattle.std.proofs.Common.{[], inr, lit<}
use Rattle.std.proofs.lemmas.Result.{IfOk-weaker, IfErr-weaker}
use Rattle.dump_read.proofs.PieceLemmas.{early_fault}
use Rattle.dump_read.proofs.reader.read_dump.Goals as goal

pub finish-requires : goal.finish-requires
finish-requires g c = (lit< tt, (lit< tt, (c.requires.width, inr (c.args.text.now, c.in-Ok.ensures.ok [] c.new-reading.ensures))))

pub returns-in-Ok-clause-ok : goal.returns-in-Ok-clause-ok
returns-in-Ok-clause-ok g c =
    IfOk-weaker c.finish.result _ _ (λ dump reads. reads c.args.text.now (c.in-Ok.ensures.ok [] c.new-reading.ensures)) c.finish.ensures.ok

pub returns-in-Ok-clause-fault : goal.returns-in-Ok-clause-fault
returns-in-Ok-clause-fault g c =
    IfErr-weaker c.finish.result _ _ (λ fault told. told c.args.text.now (c.in-Ok.ensures.ok [] c.new-reading.ensures)) c.finish.ensures.fault

pub returns-in-Err-clause-fault : goal.returns-in-Err-clause-fault
returns-in-Err-clause-fault g c =
    early_fault g.row.W g.F.Family.Reads c.args.text.now c.in-Err.fault (c.in-Err.ensures.fault [] c.new-reading.ensures)
