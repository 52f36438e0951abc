use Rattle.std.proofs.Common.{◌≡◌, length, map}
use Rattle.basics.specs.Parts.{comma_parts}
use Rattle.primitives.specs.Tables.{bits_in}
use Rattle.primitives.specs.inner.Rows.{named}
use Rattle.primitives.proofs.ListLemmas.{bits_with}
use Rattle.primitives.proofs.words.bits_of_list.Given as goal

abbrev pub invariant-loop-part : goal.invariant-loop-part
invariant-loop-part l = bits_with (map named l.words) l.bits l.rest ≡ bits_in (map named l.words) (comma_parts l.text)

abbrev pub decreases-loop-part : goal.decreases-loop-part
decreases-loop-part l = length l.rest
