use Rattle.std.proofs.Common.{◌∷◌, [], codes, subst}
use Rattle.std.proofs.lemmas.Result.{err_from_is_err_and}
use Rattle.dump_grammar.specs.Lines.{bare, HasWords}
use Rattle.dump_read.proofs.NameLemmas.{same_tested, differ_tested}
use Rattle.dump_read.proofs.TakeLemmas.{malformed_less, words_has, open_other, open_filter, open_twice, open_none}
use Rattle.dump_read.proofs.steps.open_table.Goals as goal

pub returns-in_err-words-clause-stuck : goal.returns-in_err-words-clause-stuck
returns-in_err-words-clause-stuck g c =
    let p = err_from_is_err_and c.from_residual.result c.from_residual.ensures.1 in
    rw (p.1, p.2) (malformed_less _ _ c.in_err-words.field-0.0 (λ none found n q s m. none (bare (42 ∷ m.0) ∷ []) m.1.1) c.in_err-words.ensures.none)

pub returns-in_default-clause-stuck : goal.returns-in_default-clause-stuck
returns-in_default-clause-stuck g c found n q s m =
    let has = words_has c.args.line.now c.in_ok-words.words c.as_slice.result.now c.as_slice.ensures c.in_ok-words.ensures.words in
    open_none g.row.W g.F.Family.Reads c.args.state.now found n c.args.line.now _ q has c.in_default.ensures.none m

pub returns-then-ne-clause-moved : goal.returns-then-ne-clause-moved
returns-then-ne-clause-moved g c found n s =
    let name = c.in-Some.name.now in
    let has = words_has c.args.line.now c.in_ok-words.words c.as_slice.result.now c.as_slice.ensures c.in_ok-words.ensures.words in
    open_other g.row.W g.F.Family.Reads c.args.state.now found n c.args.line.now name (subst (HasWords c.args.line.now) c.in-Some.ensures.some.0 has) c.in-Some.ensures.some.1
    (differ_tested name c.as_slice-2.result.now (codes "filter") c.if-ne.ensures c.as_slice-2.ensures) s

pub returns-then-state-clause-stuck : goal.returns-then-state-clause-stuck
returns-then-state-clause-stuck g c found n q s m =
    let name = c.in-Some.name.now in
    let has = words_has c.args.line.now c.in_ok-words.words c.as_slice.result.now c.as_slice.ensures c.in_ok-words.ensures.words in
    open_twice g.row.W g.F.Family.Reads c.args.state.now found n c.args.line.now name q (subst (HasWords c.args.line.now) c.in-Some.ensures.some.0 has)
    (same_tested name c.as_slice-2.result.now (codes "filter") c.if-ne.ensures c.as_slice-2.ensures) c.if-state.true s m

pub returns-clause-moved : goal.returns-clause-moved
returns-clause-moved g c found n s =
    let name = c.in-Some.name.now in
    let has = words_has c.args.line.now c.in_ok-words.words c.as_slice.result.now c.as_slice.ensures c.in_ok-words.ensures.words in
    open_filter g.row.W g.F.Family.Reads c.args.state.now found n c.args.line.now name (subst (HasWords c.args.line.now) c.in-Some.ensures.some.0 has) c.in-Some.ensures.some.1
    (same_tested name c.as_slice-2.result.now (codes "filter") c.if-ne.ensures c.as_slice-2.ensures) c.if-state.false s
