use Rattle.std.proofs.Common.{◌≡◌, None, map, sym, ◌∙◌, rules}
use Rattle.primitives.specs.Tables.{bit_in}
use Rattle.primitives.specs.inner.Rows.{named}
use Rattle.primitives.proofs.ListLemmas.{name_last, name_last_some, name_passed, name_unknown}
use Rattle.primitives.proofs.words.bits_of_list.Goals as goal

pub returns-in_err-bits : goal.returns-in_err-bits
returns-in_err-bits c =
    let unknown : bit_in (map named c.args.words.now) c.in-Some.part.now ≡ None = search rules in
    let none : c.from_residual.result ≡ None = search rules in
    none ∙ name_unknown _ c.loop-part.rest.now c.in-Some.part.now c.in-Some.after.now c.loop-part.bits _ c.in-Some.ensures.some unknown c.loop-part.invariant

pub loop-part-preserved : goal.loop-part-preserved
loop-part-preserved c =
    name_passed _ c.loop-part.rest.now c.in-Some.part.now c.in-Some.after.now c.loop-part.bits c.in_ok-bits.field-0 _ c.in-Some.ensures.some (sym c.in_ok-bits.ensures) c.loop-part.invariant

pub returns-in_err-last : goal.returns-in_err-last
returns-in_err-last c =
    let unknown : bit_in (map named c.args.words.now) c.loop-part.rest.now ≡ None = search rules in
    let none : c.from_residual-in_err-last.result ≡ None = search rules in
    none ∙ name_last _ c.loop-part.rest.now c.loop-part.bits _ None c.in_default.ensures.none unknown c.loop-part.invariant

pub returns : goal.returns
returns c = name_last_some _ c.loop-part.rest.now c.loop-part.bits c.in_ok-last.last _ c.in_default.ensures.none (sym c.in_ok-last.ensures) c.loop-part.invariant
