use Rattle.std.proofs.Common.{◌∷◌, ◌∙◌, [], List, ap, sym, refl, rules}
use Rattle.dump_grammar.specs.Lines.{Word, word_of, words_of}
use Rattle.dump_grammar.proofs.PolicyLemmas.{words_are}
use Rattle.dump_grammar.proofs.heads.rule_head.Goals as goal

pub returns-then-is_bare-clause-some : goal.returns-then-is_bare-clause-some
returns-then-is_bare-clause-some c = (
  [],
  word_of c.in-Some-first_word.name.now,
  (
    tt,
    sym c.as_slice.ensures,
    words_are c.args.words.now c.in-Some.after.now c.in-Some-first_word.rest.now c.in-Some.first.now c.in-Some-first_word.name.now _ _
        c.in-Some.ensures.some c.in-Some-first_word.ensures.some (c.is_bare.ensures.0 (search rules)) refl,
  ),
)

pub returns-clause-some : goal.returns-clause-some
returns-clause-some c = (
  word_of c.in-Some.first.now ∷ [],
  word_of c.in-Some-first_word-3.name.now,
  (
    c.is_counter.ensures.0 (search rules),
    sym c.as_slice-2.ensures,
    ap words_of c.in-Some.ensures.some
        ∙ ap (λ (ws : List Word). word_of c.in-Some.first.now ∷ ws)
        (words_are c.in-Some.after.now c.in-Some-first_word-2.after.now c.in-Some-first_word-3.rest.now c.in-Some-first_word-2.second.now c.in-Some-first_word-3.name.now _ _
        c.in-Some-first_word-2.ensures.some c.in-Some-first_word-3.ensures.some (c.is_bare-2.ensures.0 (search rules)) refl),
  ),
)
