use Rattle.dump_read.proofs.ByteLemmas.{words_fit}
use Rattle.dump_read.proofs.lines.line_words.Goals as goal

pub returns-in-Ok-clause-few : goal.returns-in-Ok-clause-few
returns-in-Ok-clause-few c = words_fit 0 c.in-Ok.tokens c.args.line.now c.in-Ok.ensures.words
