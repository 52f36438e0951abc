use Rattle.std.proofs.Common.{◌≡◌, arith, sym, ◌∙◌}
use Rattle.std.proofs.lemmas.Fmt.{decimal_injective}
use Rattle.dump_grammar.proofs.PortLemmas.{no_port, port_ends}
use Rattle.dump_grammar.proofs.ports.port_range.Goals as goal

pub returns-in_default-clause-none : goal.returns-in_default-clause-none
returns-in_default-clause-none c = no_port c.args.text.now c.one_port.result c.in_default.ensures.none c.one_port.ensures.none

pub returns-in_default-read_number-clause-none : goal.returns-in_default-read_number-clause-none
returns-in_default-read_number-clause-none c r is =
    let ends = port_ends _ _ _ r c.in-Some.ensures.some.0 c.in-Some.ensures.some.1 is in
    c.in_default-read_number.ensures.none r.lo (let h = ends.2 in let k = ends.3 in omega arith) ends.0

pub returns-in_default-read_number-2-clause-none : goal.returns-in_default-read_number-2-clause-none
returns-in_default-read_number-2-clause-none c r is =
    let ends = port_ends _ _ _ r c.in-Some.ensures.some.0 c.in-Some.ensures.some.1 is in
    c.in_default-read_number-2.ensures.none r.hi ends.3 ends.1

pub returns-then-lo-hi-clause-none : goal.returns-then-lo-hi-clause-none
returns-then-lo-hi-clause-none c r is =
    let ends = port_ends _ _ _ r c.in-Some.ensures.some.0 c.in-Some.ensures.some.1 is in
    let h = ends.2 in
    let k = ends.3 in
    let lo : c.in-Some-read_number.lo ≡ r.lo = decimal_injective _ _ (omega arith) (omega arith) (sym c.in-Some-read_number.ensures.some ∙ ends.0) in
    let hi : c.in-Some-read_number-2.hi ≡ r.hi = decimal_injective _ _ (omega arith) (omega arith) (sym c.in-Some-read_number-2.ensures.some ∙ ends.1) in
    absurd (omega (arith, lo, hi, h, c.if-lo-hi.true))
