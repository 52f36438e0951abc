use Rattle.std.proofs.Common.{rules, ◌≡◌, map, ap}
use Rattle.opt_table.specs.Options.{known_options}
use Rattle.opt_table.specs.Rows.{spelling_of}
use Rattle.opt_table.proofs.Distinct.{distinct, all_differ}
use Rattle.opt_table.proofs.known.options.Goals as goal

pub returns-clause-distinct : goal.returns-clause-distinct
returns-clause-distinct c =
    let same : map spelling_of c.new.result.rows.now ≡ known_options = search rules in
    distinct c.new.result.rows.now (ap all_differ same)
