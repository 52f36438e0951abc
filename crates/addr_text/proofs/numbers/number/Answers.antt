use Rattle.std.proofs.Common.{rules, subst, sym}
use Rattle.std.specs.Prelude.{IsUtf8}
use Rattle.addr_text.specs.Numbers.{BeginsWell}
use Rattle.addr_text.proofs.NumberLemmas.{decimal_begins, decimal_utf8, number_none, number_some}
use Rattle.addr_text.proofs.numbers.number.Goals as goal

pub returns-then-not-begins_well-clause-none : goal.returns-then-not-begins_well-clause-none
returns-then-not-begins_well-clause-none c n small is =
    let yes = c.begins_well.ensures.1 (subst BeginsWell (sym is) (decimal_begins n small)) in
    absurd (search rules)

pub returns-in-Ok-clause-some : goal.returns-in-Ok-clause-some
returns-in-Ok-clause-some c =
    let (r, parses, is) = c.parsed.ensures in
    number_some c.args.text.now c.in-Ok.text.now c.parsed.result (c.begins_well.ensures.0 (search rules)) c.in-Ok.ensures.cases.0 r parses is

pub returns-in-Ok-clause-none : goal.returns-in-Ok-clause-none
returns-in-Ok-clause-none c =
    let (r, parses, is) = c.parsed.ensures in
    number_none c.args.text.now c.in-Ok.text.now c.parsed.result c.in-Ok.ensures.cases.0 r parses is

pub returns-in-Err-clause-none : goal.returns-in-Err-clause-none
returns-in-Err-clause-none c n small is = c.in-Err.ensures.cases.0 (subst IsUtf8 (sym is) (decimal_utf8 n small))
