use Rattle.std.proofs.Common.{◌≡◌, drop, map}
use Rattle.primitives.specs.Tables.{number_in}
use Rattle.primitives.specs.inner.Rows.{named}
use Rattle.primitives.proofs.tables.number_of.Given as goal

abbrev pub invariant-loop-word : goal.invariant-loop-word
invariant-loop-word l = number_in (map named (drop l.word-index l.words)) l.text ≡ number_in (map named l.words) l.text
