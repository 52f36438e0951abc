use Rattle.std.proofs.Common.{◌≡◌, ◌∙◌, ◌++◌, refl, length, length-append, ap, sym, subst, arith, lit<}
use Rattle.std.proofs.lemmas.Result.{err_from_is_err_and, on_ok_weaker, IfErr-weaker}
use Rattle.dump_grammar.specs.Lines.{IsLine}
use Rattle.dump_grammar.proofs.PolicyLemmas.{one_chain_line}
use Rattle.dump_read.proofs.Readers.{one_rule, width_most}
use Rattle.dump_read.proofs.PieceLemmas.{counted_empty, line_joined, taken_few, taken_count, taken_line, stuck_line}
use Rattle.dump_read.proofs.line_reader.end_line.Goals as goal

pub overflow_add-reader : goal.overflow_add-reader
overflow_add-reader g c =
    let (text, (taken, below)) = c.requires.stands in
    let count = taken_count g.row.W g.F.Family.Reads c.args.reader.now text taken in
    omega (arith, count, below)

pub take_numbered-requires : goal.take_numbered-requires
take_numbered-requires g c =
    let (text, (taken, below)) = c.requires.stands in
    let few = taken_few g.row.W g.F.Family.Reads c.args.reader.now text taken in
    (lit< tt, (c.requires.width, (omega (arith, below), (c.requires.line, (omega (arith, few, below), (taken.position, taken.shows))))))

pub returns-then-is_empty-clause-taken : goal.returns-then-is_empty-clause-taken
returns-then-is_empty-clause-taken g c =
    let old = c.args.reader.now in
    let bytes = c.args.bytes.now in
    let empty = counted_empty old.unfinished.items _ c.is_empty.result old.unfinished.ok.0 c.is_empty.ensures c.if-is_empty.true in
    on_ok_weaker c.take_numbered.result (λ takes text taken.
    taken_line g.row.W g.F.Family.Reads old _ text bytes bytes taken c.requires.line (sym (ap (λ z. z ++ bytes) empty)) takes refl empty) c.take_numbered.ensures.moved

pub returns-then-is_empty-clause-stuck : goal.returns-then-is_empty-clause-stuck
returns-then-is_empty-clause-stuck g c =
    let old = c.args.reader.now in
    let bytes = c.args.bytes.now in
    let empty = counted_empty old.unfinished.items _ c.is_empty.result old.unfinished.ok.0 c.is_empty.ensures c.if-is_empty.true in
    IfErr-weaker c.take_numbered.result _ _ (λ fault stops text more taken.
    stuck_line g.row.W g.F.Family.Reads one_chain_line (one_rule g.row.W g.F.Family.Reads (record { one = g.met.F.Family.one; plain = g.met.F.Family.plain; not_number = g.met.F.Family.not_number }) (width_most g.row.W c.requires.width))
    old text bytes bytes more fault taken c.requires.line (sym (ap (λ z. z ++ bytes) empty)) stops) c.take_numbered.ensures.stuck

pub take_numbered-requires-2 : goal.take_numbered-requires-2
take_numbered-requires-2 g c =
    let (text, (taken, below)) = c.requires.stands in
    let old = c.args.reader.now in
    let bytes = c.args.bytes.now in
    let few = taken_few g.row.W g.F.Family.Reads old text taken in
    let line : c.deref.result.now ≡ old.unfinished.items ++ bytes = c.deref.ensures.value ∙ c.in_ok-extend_from_slice.ensures.items in (
      lit< tt,
      (
        c.requires.width,
        (
          omega (arith, few, below, ap length line, length-append old.unfinished.items bytes),
          (subst IsLine (sym line) (line_joined old.unfinished.items bytes taken.unended c.requires.line), (omega (arith, few, below), (taken.position, taken.shows))),
        ),
      ),
    )

pub returns-in_err-take_numbered-clause-stuck : goal.returns-in_err-take_numbered-clause-stuck
returns-in_err-take_numbered-clause-stuck g c =
    let old = c.args.reader.now in
    let bytes = c.args.bytes.now in
    let line : c.deref.result.now ≡ old.unfinished.items ++ bytes = c.deref.ensures.value ∙ c.in_ok-extend_from_slice.ensures.items in
    let p = err_from_is_err_and c.from_residual-in_err-take_numbered.result c.from_residual-in_err-take_numbered.ensures.1 in
    rw (p.1, p.2) (λ text more taken.
    stuck_line g.row.W g.F.Family.Reads one_chain_line (one_rule g.row.W g.F.Family.Reads (record { one = g.met.F.Family.one; plain = g.met.F.Family.plain; not_number = g.met.F.Family.not_number }) (width_most g.row.W c.requires.width))
    old text bytes c.deref.result.now more c.in_err-take_numbered.field-0.0 taken c.requires.line line c.in_err-take_numbered.ensures.stuck)

pub returns-clause-taken : goal.returns-clause-taken
returns-clause-taken g c text taken =
    let old = c.args.reader.now in
    let bytes = c.args.bytes.now in
    let line : c.deref.result.now ≡ old.unfinished.items ++ bytes = c.deref.ensures.value ∙ c.in_ok-extend_from_slice.ensures.items in
    taken_line g.row.W g.F.Family.Reads old _ text bytes c.deref.result.now taken c.requires.line line c.in_ok-take_numbered.ensures.moved refl c.clear.ensures.items
