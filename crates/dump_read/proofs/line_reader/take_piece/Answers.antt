use Rattle.std.proofs.Common.{◌++◌, refl, lit<}
use Rattle.std.proofs.lemmas.Result.{err_from_is_err_and}
use Rattle.limits.specs.declared.TheConstants.{MOST_BYTES}
use Rattle.dump_read.proofs.PieceLemmas.{part_more, part_stuck, part_end, part_room}
use Rattle.dump_read.proofs.line_reader.take_piece.Goals as goal

pub end_line-requires : goal.end_line-requires
end_line-requires g c =
    let (text, (taken, small)) = c.requires.stands in
    let part = c.loop-line.invariant text taken in
    let some = c.in-Some.ensures.some in
    let room = part_room g.row.W g.F.Family.Reads c.loop-line.reader c.args.piece.now c.loop-line.rest.now c.in-Some.line.now c.in-Some.after.now text MOST_BYTES part some.1 small in
    (lit< tt, (c.requires.width, (some.0, (text ++ part.front, (part.taken, room)))))

pub returns-in_err-end_line-clause-stuck : goal.returns-in_err-end_line-clause-stuck
returns-in_err-end_line-clause-stuck g c =
    let p = err_from_is_err_and c.from_residual.result c.from_residual.ensures.1 in
    rw (p.1, p.2) (λ text taken.
    let part = c.loop-line.invariant text taken in
    part_stuck g.row.W g.F.Family.Reads c.loop-line.reader c.args.piece.now c.loop-line.rest.now c.in-Some.line.now c.in-Some.after.now text c.in_err-end_line.field-0.0 part c.in-Some.ensures.some.1
    (c.in_err-end_line.ensures.stuck (text ++ part.front) c.in-Some.after.now part.taken))

pub loop-line-preserved : goal.loop-line-preserved
loop-line-preserved g c text taken =
    let part = c.loop-line.invariant text taken in
    part_more g.row.W g.F.Family.Reads c.loop-line.reader _ c.args.piece.now c.loop-line.rest.now c.in-Some.line.now c.in-Some.after.now text part c.in-Some.ensures.some.1
    (c.in_ok-end_line.ensures.taken (text ++ part.front) part.taken)

pub returns-clause-taken : goal.returns-clause-taken
returns-clause-taken g c text taken =
    part_end g.row.W g.F.Family.Reads c.loop-line.reader _ c.args.piece.now c.loop-line.rest.now text (c.loop-line.invariant text taken) c.in_default.ensures.none refl refl c.in_ok-extend_from_slice.ensures.items
