use Rattle.std.proofs.Common.{◌≡◌, ◌++◌, map, take}
use Rattle.primitives.specs.Tables.{name_list, names_of}
use Rattle.primitives.specs.inner.Rows.{named}
use Rattle.primitives.proofs.RowLemmas.{is_nil}
use Rattle.primitives.proofs.writing.append_list.Given as goal

abbrev pub invariant-loop-word : goal.invariant-loop-word
invariant-loop-word l = (l.out.items ≡ l.fn.out.items ++ name_list (map named (take l.word-index l.words)) l.bits)
    × (l.is_first ≡ is_nil (names_of (map named (take l.word-index l.words)) l.bits))
