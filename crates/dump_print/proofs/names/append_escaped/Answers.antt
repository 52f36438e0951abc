use Rattle.std.proofs.Common.{arith}
use Rattle.dump_print.proofs.NameLemmas.{escaped_more}
use Rattle.primitives.proofs.Growing.{grown}
use Rattle.dump_print.proofs.Steps.{kept, on_err}
use Rattle.dump_print.proofs.names.append_escaped.Goals as goal

pub returns-in_err-append_byte-clause-err : goal.returns-in_err-append_byte-clause-err
returns-in_err-append_byte-clause-err c = on_err c.from_residual.result (kept _ _ _ _ c.loop-byte.invariant c.in_err-append_byte.ensures.err)

pub loop-byte-preserved : goal.loop-byte-preserved
loop-byte-preserved c = grown _ _ _ _ _ _ c.loop-byte.invariant c.in_ok-append_byte.ensures.ok (escaped_more c.args.bytes.now c.loop-byte.byte-index 0 (omega arith))
