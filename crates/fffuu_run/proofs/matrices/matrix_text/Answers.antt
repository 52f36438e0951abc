use Rattle.std.proofs.Common.{[], arith, subst}
use Rattle.primitives.specs.declared.prim.Prim_.{Prim_}
use Rattle.fw_rule.specs.declared.rule.Dump.{Dump}
use Rattle.fffuu_run.specs.Matrices.{IsMatrixOver, IsMatrixText}
use Rattle.fffuu_run.specs.Respecting.{with_spaces}
use Rattle.fffuu_run.proofs.Carrying.{comes_here, names_there, policy_there, room_there, told_here, within_here}
use Rattle.fffuu_run.proofs.Respecting.{matrix_with}
use Rattle.fffuu_run.proofs.Texts.{answers_texts, refuses_texts}
use Rattle.fffuu_run.proofs.matrices.matrix_text.Goals as goal

pub matrix_of-requires : goal.matrix_of-requires
matrix_of-requires g c =
    let dump = c.in_ok-dump.field-0.dump in
    let chain = c.in_ok-dump.field-0.chain in
    let zones = c.args.zones.now in
    let hops = c.args.hops.now in
    let other = c.in_ok-other.other in (
      omega arith,
      (
        c.requires.width,
        (
          policy_there zones hops dump other c.in_ok-other.ensures.same chain (c.in_ok-dump.field-0.policy, c.in_ok-dump.ensures.policy),
          (
            room_there zones hops dump other c.in_ok-other.ensures.same chain c.in_ok-dump.ensures.room,
            names_there zones hops dump other c.in_ok-other.ensures.same chain c.in_ok-dump.ensures.named,
          ),
        ),
      ),
    )

pub returns-in-Ok-clause-ok : goal.returns-in-Ok-clause-ok
returns-in-Ok-clause-ok g c =
    let dump = c.in_ok-dump.field-0.dump in
    let chain = c.in_ok-dump.field-0.chain in
    let zones = c.args.zones.now in
    let hops = c.args.hops.now in
    let text = subst (λ (d : Dump (Prim_ g.row.W)). IsMatrixText g.F.Family.text_of c.args.side c.args.service.now [] [] d chain c.in-Ok.written.items)
    c.in_ok-other.ensures.same c.in-Ok.ensures.ok in
    answers_texts g.F.Family.Reads c.args.read c.args.name.now (λ dump chain. IsMatrixOver c.args.side (with_spaces zones hops dump) chain) dump chain
    (λ dump chain. IsMatrixText g.F.Family.text_of c.args.side c.args.service.now zones hops dump chain c.in-Ok.written.items) c.in_ok-dump.ensures.asked
    (within_here zones hops dump c.in_ok-other.other c.in_ok-other.ensures.same chain (λ d. IsMatrixOver c.args.side d chain) c.in-Ok.ensures.within)
    (matrix_with g.F.Family.text_of c.args.side c.args.service.now dump c.in_ok-dump.ensures.plain chain zones hops c.requires.spaces.zones_are c.requires.spaces.prefixes
    c.in-Ok.written.items text)

pub returns-clause-refused : goal.returns-clause-refused
returns-clause-refused g c =
    let dump = c.in_ok-dump.field-0.dump in
    let chain = c.in_ok-dump.field-0.chain in
    let zones = c.args.zones.now in
    let hops = c.args.hops.now in
    refuses_texts g.F.Family.Reads c.args.read c.args.name.now (λ dump chain. IsMatrixOver c.args.side (with_spaces zones hops dump) chain)
    dump chain c.in-Err.refusal c.told.result c.in_ok-dump.ensures.asked
    (comes_here zones hops dump c.in_ok-other.other c.in_ok-other.ensures.same chain (λ d. IsMatrixOver c.args.side d chain) c.in-Err.refusal c.in-Err.ensures.refused)
    (told_here zones hops dump c.in_ok-other.other c.in_ok-other.ensures.same chain c.in-Err.refusal c.told.result c.told.ensures)
