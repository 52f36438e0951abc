use Rattle.std.proofs.Common.{◌≡◌, length}
use Rattle.request.specs.Names.{bytes_of}
use Rattle.request.proofs.NameLemmas.{bytes_before}
use Rattle.request.proofs.names.bytes_of.Given as goal

abbrev pub invariant-loop-rest : goal.invariant-loop-rest
invariant-loop-rest l = bytes_before l.bytes.items (bytes_of l.rest) ≡ bytes_of l.digits

abbrev pub decreases-loop-rest : goal.decreases-loop-rest
decreases-loop-rest l = length l.rest
