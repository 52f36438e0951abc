use Rattle.std.proofs.Common.{sym}
use Rattle.dump_grammar.proofs.OptionLemmas.{arity_found, arity_none}
use Rattle.dump_grammar.proofs.options.arity.Goals as goal

pub returns-in-Some : goal.returns-in-Some
returns-in-Some c = arity_found _ _ _ _ _ c.options-table.ensures.rows (sym c.in-Some.ensures) c.row.ensures

pub returns-in-None : goal.returns-in-None
returns-in-None c = arity_none _ _ _ c.options-table.ensures.rows (sym c.in-None.ensures)
