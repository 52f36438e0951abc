use Rattle.std.proofs.Common.{◌∙◌, ap, arith, refl, subst, sym}
use Rattle.std.proofs.lemmas.Result.{err_from_is_err_and}
use Rattle.box_norm.specs.Regular.{EachCube, HasStates, IsRegular}
use Rattle.box_norm.specs.Sets.{HasSets}
use Rattle.dump_print.specs.Printed.{printed}
use Rattle.simple_filter.specs.Closed.{Accepts, NamesAreKnown}
use Rattle.fffuu_run.proofs.FilterCauses.{closed_refused, few_lines, is_printed, many_lines}
use Rattle.fffuu_run.proofs.filtering.filter_of.Goals as goal

pub means_its_side-requires : goal.means_its_side-requires
means_its_side-requires g c =
    let accepts = c.in_ok-rules.ensures.meaning c.args.policy c.requires.policy in
    let accepted = subst (Accepts c.args.side c.args.dump.now c.args.chain c.args.policy) (sym c.as_slice.ensures) accepts in
    let regular = subst (EachCube IsRegular) (sym c.as_slice.ensures) c.in_ok-rules.ensures.regular in
    let states = subst (EachCube HasStates) (sym c.as_slice.ensures) c.in_ok-rules.ensures.states in
    let sets = subst (EachCube HasSets) (sym c.as_slice.ensures) c.in_ok-rules.ensures.sets in
    let names = subst (EachCube (NamesAreKnown c.args.dump.now c.args.chain)) (sym c.as_slice.ensures) c.in_ok-rules.ensures.names in
    (omega arith, (omega arith, (c.requires.built_in, (c.requires.printable, (accepted, (regular, (states, (sets, names))))))))

pub returns-in-Ok-clause-ok : goal.returns-in-Ok-clause-ok
returns-in-Ok-clause-ok g c =
    is_printed g.F.Family.Reads g.F.Family.text_of c.args.side c.args.name.now c.args.dump.now c.args.chain c.args.policy _
    (c.as_slice.ensures ∙ c.in_ok-rules.ensures.rules) c.requires.chain_is c.means_its_side.ensures _
    (c.into_vec.ensures ∙ c.in-Ok.ensures.text ∙ ap (printed g.F.Family.text_of g.row.W c.args.name.now c.args.policy) (c.as_slice-2.ensures ∙ sym c.as_slice.ensures))

pub returns-in-Ok-clause-within : goal.returns-in-Ok-clause-within
returns-in-Ok-clause-within g c =
    few_lines g.F.Family.text_of c.args.name.now c.args.dump.now c.args.chain c.args.side _ (c.as_slice-2.ensures ∙ c.in_ok-rules.ensures.rules)
    c.in_ok-rules.ensures.checked c.in_ok-rules.ensures.small (omega (arith, c.in-Ok.ensures.few, c.in-Ok.ensures.count))

pub returns-in-Err-Lines-clause-refused : goal.returns-in-Err-Lines-clause-refused
returns-in-Err-Lines-clause-refused g c =
    let many = rw c.in-Err-Lines.field-0-is at c.in-Err-Lines.ensures.many in
    many_lines g.F.Family.text_of c.args.name.now c.args.dump.now c.args.chain c.args.side _ (c.as_slice-2.ensures ∙ c.in_ok-rules.ensures.rules)
    c.in_ok-rules.ensures.checked c.in_ok-rules.ensures.small (many refl)

pub returns-in_err-rules-clause-refused : goal.returns-in_err-rules-clause-refused
returns-in_err-rules-clause-refused g c =
    let refused = closed_refused g.F.Family.text_of c.args.name.now c.args.dump.now c.args.chain c.args.side c.in_err-rules.field-0.0 c.in_err-rules.ensures.refused in
    let p = err_from_is_err_and c.from_residual.result c.from_residual.ensures.1 in
    rw (p.1, p.2) refused
