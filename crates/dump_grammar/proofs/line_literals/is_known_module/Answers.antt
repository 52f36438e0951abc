use Rattle.std.proofs.Common.{◌∙◌}
use Rattle.dump_grammar.proofs.OptionLemmas.{module_known}
use Rattle.dump_grammar.proofs.line_literals.is_known_module.Goals as goal

pub returns : goal.returns
returns c = c.has_module.ensures ∙ module_known c.args.name.now c.options.result.rows.now c.options.ensures.rows
