use Rattle.fffuu_run.proofs.Texts.{has_names, has_plain}
use Rattle.fffuu_run.proofs.questions.question.Goals as goal

pub returns-clause-named : goal.returns-clause-named
returns-clause-named g c = has_names g.F.Family.Reads c.args.read c.in_ok-dump.dump c.in_ok-dump.ensures.ok c.requires

pub returns-clause-plain : goal.returns-clause-plain
returns-clause-plain g c = has_plain g.F.Family.Reads c.args.read c.in_ok-dump.dump c.in_ok-dump.ensures.ok c.requires
