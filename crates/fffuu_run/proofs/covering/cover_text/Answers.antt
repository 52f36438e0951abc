use Rattle.std.proofs.lemmas.Result.{IfErr-weaker}
use Rattle.fffuu_run.proofs.CoverLemmas.{divided_none}
use Rattle.fffuu_run.proofs.covering.cover_text.Goals as goal

pub returns-in-Some-clause-refused : goal.returns-in-Some-clause-refused
returns-in-Some-clause-refused g c =
    IfErr-weaker c.of_parts.result _ _ (λ s refused. divided_none g.row.W g.F.Family.Reads g.F.Family.text_of c.args.name.now c.args.text.now c.in-Some.ensures.some.0
    c.in-Some.parts.first.now c.in-Some.parts.second.now c.in-Some.parts.before c.in-Some.ensures.some.1.0 c.in-Some.ensures.some.1.1 s refused)
    c.of_parts.ensures.refused
