use Rattle.std.proofs.Common.{arith}
use Rattle.std.proofs.lemmas.Result.{IfErr-weaker, IfOk-weaker}
use Rattle.fffuu_run.proofs.CoverLemmas.{missing_of, parts_line, parts_none, second_missing}
use Rattle.fffuu_run.proofs.LineBounds.{lines_after, missing_after}
use Rattle.fffuu_run.proofs.covering.of_parts.Goals as goal

pub compared-requires : goal.compared-requires
compared-requires g c =
    let asks = c.in-Ok.ensures.asked c.args.parts.now.second.now c.read_text-2.ensures in
    let lines = lines_after g.row.W g.F.Family.Reads c.args.parts.now.second.now c.requires.second c.args.parts.now.before c.requires.before c.in-Ok.second.dump asks.0 in (
      omega arith,
      (
        c.requires.width,
        (
          (_, c.in_ok-first.ensures.policy),
          (
            c.in_ok-first.ensures.room,
            (
              c.in_ok-first.ensures.named,
              ((_, c.in-Ok.ensures.policy), (c.in-Ok.ensures.room, (c.in-Ok.ensures.named, lines))),
            ),
          ),
        ),
      ),
    )

pub returns-in-Ok-clause-ok : goal.returns-in-Ok-clause-ok
returns-in-Ok-clause-ok g c =
    IfOk-weaker c.compared.result _ _ (λ written line. parts_line _ _ _ _ g.F.Family.Reads g.F.Family.text_of c.args.name.now c.args.parts.now.first.now c.args.parts.now.second.now
    (c.in_ok-first.ensures.asked c.args.parts.now.first.now c.read_text.ensures) (c.in-Ok.ensures.asked c.args.parts.now.second.now c.read_text-2.ensures) written.items line)
    c.compared.ensures.ok

pub returns-in-Ok-clause-refused : goal.returns-in-Ok-clause-refused
returns-in-Ok-clause-refused g c =
    IfErr-weaker c.compared.result _ _ (λ s none. parts_none _ _ _ _ g.F.Family.Reads g.F.Family.text_of c.args.name.now c.args.parts.now.first.now c.args.parts.now.second.now
    (c.in_ok-first.ensures.asked c.args.parts.now.first.now c.read_text.ensures) (c.in-Ok.ensures.asked c.args.parts.now.second.now c.read_text-2.ensures) c.args.parts.now.before s none)
    c.compared.ensures.refused

pub moved-requires : goal.moved-requires
moved-requires g c =
    missing_after g.row.W g.F.Family.Reads c.args.parts.now.second.now c.requires.second c.args.parts.now.before c.requires.before c.args.name.now c.in-Err.status
    (missing_of g.F.Family.Reads c.args.name.now c.args.parts.now.second.now c.read_text-2.result c.read_text-2.ensures c.in-Err.status c.in-Err.ensures.refused)

pub returns-clause-refused : goal.returns-clause-refused
returns-clause-refused g c =
    let asks = c.in_ok-first.ensures.asked c.args.parts.now.first.now c.read_text.ensures in
    let missing = missing_of g.F.Family.Reads c.args.name.now c.args.parts.now.second.now c.read_text-2.result c.read_text-2.ensures c.in-Err.status c.in-Err.ensures.refused in
    second_missing c.in_ok-first.first.dump c.in_ok-first.first.chain c.in_ok-first.first.dump c.in_ok-first.first.chain g.F.Family.Reads g.F.Family.text_of c.args.name.now
    c.args.parts.now.first.now c.args.parts.now.second.now asks c.args.parts.now.before c.in-Err.status missing c.refused_first.result
    (rw c.moved.ensures at c.refused_first.ensures)
