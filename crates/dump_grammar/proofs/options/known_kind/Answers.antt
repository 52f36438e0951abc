use Rattle.std.proofs.Common.{sym}
use Rattle.dump_grammar.proofs.OptionLemmas.{form_found, form_none}
use Rattle.dump_grammar.proofs.options.known_kind.Goals as goal

pub returns-in-Some : goal.returns-in-Some
returns-in-Some c = form_found _ _ _ _ _ c.options-table.ensures.rows (sym c.in-Some.ensures) c.row.ensures

pub returns-in-None : goal.returns-in-None
returns-in-None c = form_none _ _ _ c.options-table.ensures.rows (sym c.in-None.ensures)
