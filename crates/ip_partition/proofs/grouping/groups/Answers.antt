use Rattle.std.proofs.Common.{◌∙◌, sym, arith, length, subst, List}
use Rattle.std.proofs.lemmas.Result.{err_from_is_err_and}
use Rattle.std.specs.List.{AllByRecursion}
use Rattle.interval_set.specs.declared.set.Range.{Range}
use Rattle.interval_set.specs.Numbers.{IsSet}
use Rattle.ip_partition.specs.inner.Classes.{AreClasses}
use Rattle.ip_partition.proofs.GroupLaws.{are_groups, few_boundaries, refused, starts_at}
use Rattle.ip_partition.proofs.grouping.groups.Goals as goal

pub returns-in_err-found-clause-refused : goal.returns-in_err-found-clause-refused
returns-in_err-found-clause-refused g c =
    let p = err_from_is_err_and c.from_residual.result c.from_residual.ensures.1 in
    rw (p.1, p.2) (refused g.row.W c.args.sets.now _ c.are_sets.ensures c.in_err-found.ensures.refused)

pub numbering_of-requires : goal.numbering_of-requires
numbering_of-requires g c =
    let begins = c.as_slice-starts.ensures.value ∙ c.in_ok-found.ensures.starts in
    (omega arith, (starts_at g.row.W c.args.sets.now c.as_slice-starts.result.now c.requires c.are_sets.ensures begins).ascend)

pub class_sets-requires : goal.class_sets-requires
class_sets-requires g c =
    let begins = c.as_slice-starts.ensures.value ∙ c.in_ok-found.ensures.starts in
    let starts = starts_at g.row.W c.args.sets.now c.as_slice-starts.result.now c.requires c.are_sets.ensures begins in
    let numbering = c.in_ok-numbering.ensures in
    (omega arith, (c.requires, (starts, (numbering.leaders, (numbering.lasts, numbering.count)))))

pub returns-clause-groups : goal.returns-clause-groups
returns-clause-groups g c =
    let begins = c.as_slice-starts.ensures.value ∙ c.in_ok-found.ensures.starts in
    let numbering = c.in_ok-numbering.ensures in
    let P : List (List Range) → Type 0 = λ gs. AreClasses g.row.W c.as_slice-starts.result.now c.in_ok-numbering.numbering.leaders.items (length c.as_slice-starts.result.now) gs in
    let Q : List (List Range) → Type 0 = λ gs. AllByRecursion (IsSet g.row.W) gs in
    are_groups g.row.W c.args.sets.now c.as_slice-starts.result.now c.in_ok-numbering.numbering.leaders.items c.of.result (record {
      given = c.are_sets.ensures;
      width = c.requires;
      begins = begins;
      from_zero = starts_at g.row.W c.args.sets.now c.as_slice-starts.result.now c.requires c.are_sets.ensures begins;
      leading = numbering.leaders;
      count = numbering.count;
      alike = numbering.alike;
      classes = subst P (sym c.of.ensures) c.in_ok-classes.ensures;
      made = subst Q (c.as_slice.ensures.value ∙ sym c.of.ensures) c.are_sets-2.ensures;
    })

pub returns-clause-few : goal.returns-clause-few
returns-clause-few g c = few_boundaries g.row.W c.args.sets.now c.in_ok-found.found.items c.are_sets.ensures c.in_ok-found.ensures.starts c.in_ok-found.ensures.few
