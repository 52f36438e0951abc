use Rattle.std.proofs.Common.{◌≡◌, arith}
use Rattle.interval_set.specs.declared.set.Range.{Range}
use Rattle.addr_text.specs.Nets.{IsRangeText}
use Rattle.addr_text.proofs.TextLemmas.{IsFamily, if_none, dashed_parts}
use Rattle.addr_text.proofs.nets.read_range.Goals as goal

pub returns-in_err-lo-clause-none : goal.returns-in_err-lo-clause-none
returns-in_err-lo-clause-none g c =
    let laws : IsFamily g.F.Family.Reads = record { one = g.met.F.Family.one; plain = g.met.F.Family.plain; not_number = g.met.F.Family.not_number } in
    let none : (range : Range) → IsRangeText g.F.Family.Reads c.args.text.now range → ⊥ = λ range is.
    let parts = dashed_parts g.F.Family.Reads laws c.args.text.now c.in_ok-front.front.now c.in_ok-front.back.now c.in_ok-front.ensures.some.1 c.in_ok-front.ensures.some.0 range is in
    c.in_err-lo.ensures.none range.lo parts.0 in
    if_none _ none

pub returns-in_err-hi-clause-none : goal.returns-in_err-hi-clause-none
returns-in_err-hi-clause-none g c =
    let laws : IsFamily g.F.Family.Reads = record { one = g.met.F.Family.one; plain = g.met.F.Family.plain; not_number = g.met.F.Family.not_number } in
    let none : (range : Range) → IsRangeText g.F.Family.Reads c.args.text.now range → ⊥ = λ range is.
    let parts = dashed_parts g.F.Family.Reads laws c.args.text.now c.in_ok-front.front.now c.in_ok-front.back.now c.in_ok-front.ensures.some.1 c.in_ok-front.ensures.some.0 range is in
    c.in_err-hi.ensures.none range.hi parts.1 in
    if_none _ none

pub returns-else-lo-hi-clause-none : goal.returns-else-lo-hi-clause-none
returns-else-lo-hi-clause-none g c range is =
    let laws : IsFamily g.F.Family.Reads = record { one = g.met.F.Family.one; plain = g.met.F.Family.plain; not_number = g.met.F.Family.not_number } in
    let parts = dashed_parts g.F.Family.Reads laws c.args.text.now c.in_ok-front.front.now c.in_ok-front.back.now c.in_ok-front.ensures.some.1 c.in_ok-front.ensures.some.0 range is in
    let lo : c.in_ok-lo.lo ≡ range.lo = laws.one _ _ _ c.in_ok-lo.ensures.some parts.0 in
    let hi : c.in_ok-hi.hi ≡ range.hi = laws.one _ _ _ c.in_ok-hi.ensures.some parts.1 in
    let le = parts.2 in
    absurd (omega arith)
