use Rattle.std.proofs.Common.{arith}
use Rattle.fffuu_run.specs.Filters.{IsFilterOver}
use Rattle.fffuu_run.proofs.HeadlineLemmas.{built_in_name}
use Rattle.fffuu_run.proofs.Texts.{refuses_texts}
use Rattle.fffuu_run.proofs.filtering.filter_text.Goals as goal

pub filter_of-requires : goal.filter_of-requires
filter_of-requires g c =
    let asked = c.in_ok-dump.field-0 in
    let known = c.in_ok-dump.ensures in
    let built_in = built_in_name g.F.Family.Reads c.requires.read.0 asked.dump (known.asked c.requires.read.0 c.requires.read.1).0 asked.chain c.args.name.now asked.policy known.chain in
    (omega arith, (c.requires.width, (known.room, (known.named, (built_in, (known.printable, (known.chain, known.policy)))))))

pub returns-clause-refused : goal.returns-clause-refused
returns-clause-refused g c = refuses_texts g.F.Family.Reads c.args.read c.args.name.now (λ dump chain. IsFilterOver g.F.Family.text_of c.args.side c.args.name.now dump chain)
    c.in_ok-dump.field-0.dump c.in_ok-dump.field-0.chain c.in-Err.refusal c.told.result c.in_ok-dump.ensures.asked c.in-Err.ensures.refused c.told.ensures
