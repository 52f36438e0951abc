use Rattle.dump_print.proofs.WordCover.{keeps_words}
use Rattle.dump_print.proofs.laws.words_are_kept.Goals as goal

pub returns : goal.returns
returns c = keeps_words
