use Rattle.std.proofs.Common.{◌∷◌, List, ap, codes, sym}
use Rattle.dump_token.specs.declared.token.Token.{Token}
use Rattle.dump_grammar.specs.Lines.{bare, word_of, words_of}
use Rattle.dump_grammar.proofs.grouping.module_group.Goals as goal

pub returns-clause-some : goal.returns-clause-some
returns-clause-some c = λ current. (word_of c.in-Some.value.now, (ap (λ (ws : List Token). bare (codes "-m") ∷ words_of ws) c.in-Some.ensures.some, sym c.as_slice-name.ensures))
