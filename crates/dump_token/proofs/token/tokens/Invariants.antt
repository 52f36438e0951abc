use Rattle.std.proofs.Common.{◌-◌, length}
use Rattle.dump_token.proofs.Steps.{IsRead}
use Rattle.dump_token.proofs.token.tokens.Given as goal

abbrev pub decreases-loop-words : goal.decreases-loop-words
decreases-loop-words l = length l.line - l.at

abbrev pub invariant-loop-words : goal.invariant-loop-words
invariant-loop-words l = IsRead l.line l.words.items l.at
