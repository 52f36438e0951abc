use Rattle.std.proofs.Common.{◌≡◌, ◌∙◌, false, sym}
use Rattle.std.proofs.lemmas.Result.{on_ok_weaker, IfErr-weaker}
use Rattle.dump_grammar.specs.Lines.{is_passed_over}
use Rattle.dump_read.proofs.TakeLemmas.{malformed_less, outside_takes, outside_sticks, passing_takes, inside_takes, inside_sticks}
use Rattle.dump_read.proofs.steps.take_line.Goals as goal

pub returns-in-Outside-clause-moved : goal.returns-in-Outside-clause-moved
returns-in-Outside-clause-moved g c =
    let kept : is_passed_over c.args.line.now ≡ false = sym c.is_over.ensures ∙ c.if-is_over.false in
    on_ok_weaker c.open_table.result (λ goes.
    outside_takes g.row.W g.F.Family.Reads c.args.state.now c.open_table.new.state (record { number = c.args.number; bytes = c.args.line.now }) c.in-Outside.is kept (λ found. goes found c.args.number))
    c.open_table.ensures.moved

pub returns-in-Outside-clause-stuck : goal.returns-in-Outside-clause-stuck
returns-in-Outside-clause-stuck g c =
    let kept : is_passed_over c.args.line.now ≡ false = sym c.is_over.ensures ∙ c.if-is_over.false in
    IfErr-weaker c.open_table.result _ _ (λ fault told. malformed_less _ _ fault (λ stuck.
    outside_sticks g.row.W g.F.Family.Reads c.args.state.now (record { number = c.args.number; bytes = c.args.line.now }) c.in-Outside.is kept (λ found. stuck found c.args.number)) told)
    c.open_table.ensures.stuck

pub returns-in-Passed-clause-moved : goal.returns-in-Passed-clause-moved
returns-in-Passed-clause-moved g c =
    let kept : is_passed_over c.args.line.now ≡ false = sym c.is_over.ensures ∙ c.if-is_over.false in
    passing_takes g.row.W g.F.Family.Reads c.args.state.now c.pass_line.new.state (record { number = c.args.number; bytes = c.args.line.now }) c.in-Passed.is kept (λ found. c.pass_line.ensures found c.args.number)

pub returns-in-Filter-clause-moved : goal.returns-in-Filter-clause-moved
returns-in-Filter-clause-moved g c =
    let kept : is_passed_over c.args.line.now ≡ false = sym c.is_over.ensures ∙ c.if-is_over.false in
    on_ok_weaker c.add_line.result (λ goes.
    inside_takes g.row.W g.F.Family.Reads c.args.state.now c.add_line.new.state (record { number = c.args.number; bytes = c.args.line.now }) c.in-Filter.is kept goes)
    c.add_line.ensures.moved

pub returns-in-Filter-clause-stuck : goal.returns-in-Filter-clause-stuck
returns-in-Filter-clause-stuck g c =
    let kept : is_passed_over c.args.line.now ≡ false = sym c.is_over.ensures ∙ c.if-is_over.false in
    IfErr-weaker c.add_line.result _ _ (λ fault told. malformed_less _ _ fault (λ stuck.
    inside_sticks g.row.W g.F.Family.Reads c.args.state.now (record { number = c.args.number; bytes = c.args.line.now }) c.in-Filter.is kept stuck) told)
    c.add_line.ensures.stuck
