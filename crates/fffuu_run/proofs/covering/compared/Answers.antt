use Rattle.fffuu_run.proofs.CoverLemmas.{first_out, second_after, second_out}
use Rattle.fffuu_run.proofs.covering.compared.Goals as goal

pub moved-requires : goal.moved-requires
moved-requires g c =
    second_after c.args.first.now.dump c.args.first.now.chain c.args.second.now.dump c.args.second.now.chain c.args.before c.in-Err-Second.refusal
    (rw c.in-Err-Second.field-0-is at c.in-Err-Second.ensures.refused).1 c.requires.lines c.told-in-Err-Second.result c.told-in-Err-Second.ensures

pub returns-in-Err-First-clause-refused : goal.returns-in-Err-First-clause-refused
returns-in-Err-First-clause-refused g c =
    first_out c.args.first.now.dump c.args.first.now.chain c.args.second.now.dump c.args.second.now.chain c.args.before c.in-Err-First.refusal
    (rw c.in-Err-First.field-0-is at c.in-Err-First.ensures.refused) c.told.result c.told.ensures

pub returns-in-Err-Second-clause-refused : goal.returns-in-Err-Second-clause-refused
returns-in-Err-Second-clause-refused g c =
    second_out c.args.first.now.dump c.args.first.now.chain c.args.second.now.dump c.args.second.now.chain c.args.before c.in-Err-Second.refusal
    (rw c.in-Err-Second.field-0-is at c.in-Err-Second.ensures.refused) c.told-in-Err-Second.result c.told-in-Err-Second.ensures c.moved.result c.moved.ensures
