use Rattle.dump_grammar.proofs.SayingLemmas.{first_flags_none, second_flags_none}
use Rattle.dump_grammar.proofs.saying.flags.Goals as goal

pub returns-in_default-read_flags-clause-none : goal.returns-in_default-read_flags-clause-none
returns-in_default-read_flags-clause-none g c =
    first_flags_none c.args.arguments.now c.in-Some.rest.now c.in-Some.first.now _ c.in-Some-only.second.now c.in-Some.ensures.some c.as_slice.ensures c.in-Some-only.ensures.some
    c.in_default-read_flags.ensures.none

pub returns-in_default-read_flags-2-clause-none : goal.returns-in_default-read_flags-2-clause-none
returns-in_default-read_flags-2-clause-none g c =
    second_flags_none c.args.arguments.now c.in-Some.rest.now c.in-Some.first.now c.in-Some-only.second.now c.in-Some.ensures.some c.in-Some-only.ensures.some
    c.in_default-read_flags-2.ensures.none
