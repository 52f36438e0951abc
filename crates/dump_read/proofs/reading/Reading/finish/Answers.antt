use Rattle.std.proofs.Common.{◌≡◌, ap, sym, subst, arith, length, lit<}
use Rattle.std.proofs.lemmas.Result.{err_from_is_err_and, IfOk-weaker, IfErr-weaker}
use Rattle.dump_grammar.specs.Lines.{IsLine}
use Rattle.dump_grammar.proofs.PolicyLemmas.{one_chain_line}
use Rattle.dump_read.proofs.Readers.{one_rule, width_most}
use Rattle.dump_read.proofs.ReadLemmas.{read_dump_of, read_fault, read_small, small_room, read_printable}
use Rattle.dump_read.proofs.PieceLemmas.{counted_empty, counted_some, some_length, reading_stands, taken_few, taken_count, read_ended, read_last, stuck_last}
use Rattle.dump_read.proofs.reading.Reading.finish.Goals as goal

pub end-requires : goal.end-requires
end-requires g c =
    let (text, stands) = reading_stands g.row.W g.F.Family.Reads c.args.self c.in_default.is c.requires.reads in
    let count = taken_count g.row.W g.F.Family.Reads c.args.self.reader text stands.taken in
    (lit< tt, (lit< tt, omega (arith, count, stands.short)))

pub returns-then-is_empty-clause-ok : goal.returns-then-is_empty-clause-ok
returns-then-is_empty-clause-ok g c =
    let empty = counted_empty c.args.self.reader.unfinished.items _ c.is_empty.result c.args.self.reader.unfinished.ok.0 c.is_empty.ensures c.if-is_empty.true in
    IfOk-weaker c.end.result _ _ (λ dump answers text stands. read_dump_of g.row.W g.F.Family.Reads c.args.self.reader.state text _ dump (read_ended g.row.W g.F.Family.Reads c.args.self.reader text stands.taken empty) answers) c.end.ensures.ok

pub returns-then-is_empty-clause-fault : goal.returns-then-is_empty-clause-fault
returns-then-is_empty-clause-fault g c =
    let empty = counted_empty c.args.self.reader.unfinished.items _ c.is_empty.result c.args.self.reader.unfinished.ok.0 c.is_empty.ensures c.if-is_empty.true in
    IfErr-weaker c.end.result _ _ (λ fault ends text stands. read_fault g.row.W g.F.Family.Reads one_chain_line (one_rule g.row.W g.F.Family.Reads (record { one = g.met.F.Family.one; plain = g.met.F.Family.plain; not_number = g.met.F.Family.not_number }) (width_most g.row.W c.requires.width)) c.args.self.reader.state text _ fault (read_ended g.row.W g.F.Family.Reads c.args.self.reader text stands.taken empty) ends) c.end.ensures.fault

pub returns-then-is_empty-clause-few : goal.returns-then-is_empty-clause-few
returns-then-is_empty-clause-few g c =
    let (text, stands) = reading_stands g.row.W g.F.Family.Reads c.args.self c.in_default.is c.requires.reads in
    let empty = counted_empty c.args.self.reader.unfinished.items _ c.is_empty.result c.args.self.reader.unfinished.ok.0 c.is_empty.ensures c.if-is_empty.true in
    IfOk-weaker c.end.result _ _ (λ dump answers. read_small g.row.W g.F.Family.Reads c.args.self.reader.state text _ dump (read_ended g.row.W g.F.Family.Reads c.args.self.reader text stands.taken empty) stands.short answers) c.end.ensures.ok

pub returns-then-is_empty-clause-room : goal.returns-then-is_empty-clause-room
returns-then-is_empty-clause-room g c =
    let (text, stands) = reading_stands g.row.W g.F.Family.Reads c.args.self c.in_default.is c.requires.reads in
    let empty = counted_empty c.args.self.reader.unfinished.items _ c.is_empty.result c.args.self.reader.unfinished.ok.0 c.is_empty.ensures c.if-is_empty.true in
    IfOk-weaker c.end.result _ _ (λ dump answers. small_room g.row.W g.F.Family.Reads dump (read_small g.row.W g.F.Family.Reads c.args.self.reader.state text _ dump (read_ended g.row.W g.F.Family.Reads c.args.self.reader text stands.taken empty) stands.short answers)) c.end.ensures.ok

pub returns-then-is_empty-clause-printable : goal.returns-then-is_empty-clause-printable
returns-then-is_empty-clause-printable g c =
    let (text, stands) = reading_stands g.row.W g.F.Family.Reads c.args.self c.in_default.is c.requires.reads in
    let empty = counted_empty c.args.self.reader.unfinished.items _ c.is_empty.result c.args.self.reader.unfinished.ok.0 c.is_empty.ensures c.if-is_empty.true in
    IfOk-weaker c.end.result _ _ (λ dump answers. read_printable g.row.W g.F.Family.Reads c.args.self.reader.state text _ dump (read_ended g.row.W g.F.Family.Reads c.args.self.reader text stands.taken empty) answers) c.end.ensures.ok

pub overflow_add-count : goal.overflow_add-count
overflow_add-count g c =
    let (text, stands) = reading_stands g.row.W g.F.Family.Reads c.args.self c.in_default.is c.requires.reads in
    let count = taken_count g.row.W g.F.Family.Reads c.args.self.reader text stands.taken in
    omega (arith, count, stands.short)

pub take_numbered-requires : goal.take_numbered-requires
take_numbered-requires g c =
    let (text, stands) = reading_stands g.row.W g.F.Family.Reads c.args.self c.in_default.is c.requires.reads in
    let some = counted_some c.args.self.reader.unfinished.items _ c.is_empty.result c.args.self.reader.unfinished.ok.0 c.is_empty.ensures c.if-is_empty.false in
    let one = some_length c.args.self.reader.unfinished.items some in
    let few = taken_few g.row.W g.F.Family.Reads c.args.self.reader text stands.taken in
    let line : c.deref.result.now ≡ c.args.self.reader.unfinished.items = c.deref.ensures.value in
    (lit< tt, (c.requires.width, (omega (arith, few, stands.short, ap length line), (subst IsLine (sym line) stands.taken.unended, (omega (arith, few, one, stands.short), (stands.taken.position, stands.taken.shows))))))

pub returns-in_err-take_numbered-clause-fault : goal.returns-in_err-take_numbered-clause-fault
returns-in_err-take_numbered-clause-fault g c =
    let some = counted_some c.args.self.reader.unfinished.items _ c.is_empty.result c.args.self.reader.unfinished.ok.0 c.is_empty.ensures c.if-is_empty.false in
    let p = err_from_is_err_and c.from_residual.result c.from_residual.ensures.1 in
    rw (p.1, p.2) (λ text stands.
    stuck_last g.row.W g.F.Family.Reads one_chain_line (one_rule g.row.W g.F.Family.Reads (record { one = g.met.F.Family.one; plain = g.met.F.Family.plain; not_number = g.met.F.Family.not_number }) (width_most g.row.W c.requires.width)) c.args.self.reader text c.deref.result.now c.in_err-take_numbered.field-0.0 stands.taken some c.deref.ensures.value c.in_err-take_numbered.ensures.stuck)

pub overflow_add-count-2 : goal.overflow_add-count-2
overflow_add-count-2 g c =
    let (text, stands) = reading_stands g.row.W g.F.Family.Reads c.args.self c.in_default.is c.requires.reads in
    let count = taken_count g.row.W g.F.Family.Reads c.args.self.reader text stands.taken in
    omega (arith, count, stands.short)

pub end-requires-2 : goal.end-requires-2
end-requires-2 g c =
    let (text, stands) = reading_stands g.row.W g.F.Family.Reads c.args.self c.in_default.is c.requires.reads in
    let count = taken_count g.row.W g.F.Family.Reads c.args.self.reader text stands.taken in
    let some = counted_some c.args.self.reader.unfinished.items _ c.is_empty.result c.args.self.reader.unfinished.ok.0 c.is_empty.ensures c.if-is_empty.false in
    let one = some_length c.args.self.reader.unfinished.items some in
    (lit< tt, (lit< tt, omega (arith, count, one, stands.short)))

pub returns-clause-ok : goal.returns-clause-ok
returns-clause-ok g c =
    let some = counted_some c.args.self.reader.unfinished.items _ c.is_empty.result c.args.self.reader.unfinished.ok.0 c.is_empty.ensures c.if-is_empty.false in
    IfOk-weaker c.end-2.result _ _ (λ dump answers text stands. read_dump_of g.row.W g.F.Family.Reads c.take_numbered.new.state text _ dump (read_last g.row.W g.F.Family.Reads c.args.self.reader c.take_numbered.new.state text c.deref.result.now stands.taken some c.deref.ensures.value c.in_ok-take_numbered.ensures.moved) answers) c.end-2.ensures.ok

pub returns-clause-fault : goal.returns-clause-fault
returns-clause-fault g c =
    let some = counted_some c.args.self.reader.unfinished.items _ c.is_empty.result c.args.self.reader.unfinished.ok.0 c.is_empty.ensures c.if-is_empty.false in
    IfErr-weaker c.end-2.result _ _ (λ fault ends text stands. read_fault g.row.W g.F.Family.Reads one_chain_line (one_rule g.row.W g.F.Family.Reads (record { one = g.met.F.Family.one; plain = g.met.F.Family.plain; not_number = g.met.F.Family.not_number }) (width_most g.row.W c.requires.width)) c.take_numbered.new.state text _ fault (read_last g.row.W g.F.Family.Reads c.args.self.reader c.take_numbered.new.state text c.deref.result.now stands.taken some c.deref.ensures.value c.in_ok-take_numbered.ensures.moved) ends) c.end-2.ensures.fault

pub returns-clause-few : goal.returns-clause-few
returns-clause-few g c =
    let (text, stands) = reading_stands g.row.W g.F.Family.Reads c.args.self c.in_default.is c.requires.reads in
    let some = counted_some c.args.self.reader.unfinished.items _ c.is_empty.result c.args.self.reader.unfinished.ok.0 c.is_empty.ensures c.if-is_empty.false in
    IfOk-weaker c.end-2.result _ _ (λ dump answers. read_small g.row.W g.F.Family.Reads c.take_numbered.new.state text _ dump (read_last g.row.W g.F.Family.Reads c.args.self.reader c.take_numbered.new.state text c.deref.result.now stands.taken some c.deref.ensures.value c.in_ok-take_numbered.ensures.moved) stands.short answers) c.end-2.ensures.ok

pub returns-clause-room : goal.returns-clause-room
returns-clause-room g c =
    let (text, stands) = reading_stands g.row.W g.F.Family.Reads c.args.self c.in_default.is c.requires.reads in
    let some = counted_some c.args.self.reader.unfinished.items _ c.is_empty.result c.args.self.reader.unfinished.ok.0 c.is_empty.ensures c.if-is_empty.false in
    IfOk-weaker c.end-2.result _ _ (λ dump answers. small_room g.row.W g.F.Family.Reads dump (read_small g.row.W g.F.Family.Reads c.take_numbered.new.state text _ dump (read_last g.row.W g.F.Family.Reads c.args.self.reader c.take_numbered.new.state text c.deref.result.now stands.taken some c.deref.ensures.value c.in_ok-take_numbered.ensures.moved) stands.short answers)) c.end-2.ensures.ok

pub returns-clause-printable : goal.returns-clause-printable
returns-clause-printable g c =
    let (text, stands) = reading_stands g.row.W g.F.Family.Reads c.args.self c.in_default.is c.requires.reads in
    let some = counted_some c.args.self.reader.unfinished.items _ c.is_empty.result c.args.self.reader.unfinished.ok.0 c.is_empty.ensures c.if-is_empty.false in
    IfOk-weaker c.end-2.result _ _ (λ dump answers. read_printable g.row.W g.F.Family.Reads c.take_numbered.new.state text _ dump (read_last g.row.W g.F.Family.Reads c.args.self.reader c.take_numbered.new.state text c.deref.result.now stands.taken some c.deref.ensures.value c.in_ok-take_numbered.ensures.moved) answers) c.end-2.ensures.ok
