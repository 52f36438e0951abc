use Rattle.std.proofs.Common.{◌≡◌, ◌++◌, take}
use Rattle.dump_grammar.specs.Lines.{texts, words_of}
use Rattle.dump_grammar.proofs.UnknownLemmas.{begun}
use Rattle.dump_grammar.proofs.unknown.append_words.Given as goal

abbrev pub invariant-loop-word : goal.invariant-loop-word
invariant-loop-word l = l.text.items ≡ l.fn.text.items ++ begun (texts (words_of (take l.word-index l.words)))
