use Rattle.std.proofs.Common.{sym}
use Rattle.fffuu_run.proofs.answering.text_output.Goals as goal

pub returns-in-Cover-clause-ok : goal.returns-in-Cover-clause-ok
returns-in-Cover-clause-ok g c = rw (c.in-Cover.is, sym c.as_slice.ensures) c.cover_text.ensures.ok

pub returns-in-Cover-clause-refused : goal.returns-in-Cover-clause-refused
returns-in-Cover-clause-refused g c = rw (c.in-Cover.is, sym c.as_slice.ensures) c.cover_text.ensures.refused
