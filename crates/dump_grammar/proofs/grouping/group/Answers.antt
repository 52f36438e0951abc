use Rattle.dump_grammar.proofs.GroupLemmas.{group_front}
use Rattle.dump_grammar.proofs.grouping.group.Goals as goal

pub returns-in_default-clause-none : goal.returns-in_default-clause-none
returns-in_default-clause-none c = λ g rest is.
    let f = group_front _ _ g rest is in
    c.in_default.ensures.none f.0 f.1 f.2 f.3 f.4
