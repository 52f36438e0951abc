use Rattle.std.proofs.Common.{◌∙◌}
use Rattle.dump_grammar.specs.GroupWords.{module_of}
use Rattle.dump_grammar.specs.Groups.{mark}
use Rattle.dump_grammar.specs.Lines.{texts, words_of}
use Rattle.dump_grammar.specs.Literals.{module_text}
use Rattle.dump_grammar.proofs.UnknownLemmas.{joined_is}
use Rattle.dump_grammar.proofs.unknown.option_text.Goals as goal

pub returns : goal.returns
returns c =
    c.of.ensures
    ∙ joined_is c.new-text.result.items c.append_module.new.text.items c.append_mark.new.text.items c.extend_from_slice.new.self.items c.append_words.new.text.items
    (module_text (module_of c.args.current)) (mark c.args.negated) c.args.option.now (texts (words_of c.args.arguments.now))
    c.new-text.ensures.items c.in_ok-append_module.ensures c.in_ok-append_mark.ensures c.in_ok-extend_from_slice.ensures.items c.in_ok-append_words.ensures
