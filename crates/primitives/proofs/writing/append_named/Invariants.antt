use Rattle.std.proofs.Common.{◌≡◌, drop, map}
use Rattle.primitives.specs.Tables.{name_of}
use Rattle.primitives.specs.inner.Rows.{named}
use Rattle.primitives.proofs.writing.append_named.Given as goal

abbrev pub invariant-loop-word : goal.invariant-loop-word
invariant-loop-word l = (l.out.items ≡ l.fn.out.items)
    × (name_of (map named (drop l.word-index l.words)) l.number ≡ name_of (map named l.words) l.number)
