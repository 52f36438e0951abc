use Rattle.std.proofs.Common.{◌∙◌, List, ap, subst, sym, arith}
use Rattle.interval_set.specs.declared.set.Range.{Range}
use Rattle.box_norm.specs.declared.cube.SimpleRule.{SimpleRule}
use Rattle.ip_partition.specs.Groups.{AreGroups}
use Rattle.simple_filter.specs.Closed.{Accepts}
use Rattle.service_matrix.specs.inner.AddressSets.{AreAddressSets}
use Rattle.service_matrix.specs.inner.Classes.{addresses_of, edges_of}
use Rattle.service_matrix.specs.Services.{GoesTo, accepts_service}
use Rattle.service_matrix.proofs.Built.{few_sets, refused_by}
use Rattle.service_matrix.proofs.Groups.{are_groups, means}
use Rattle.service_matrix.proofs.Partitions.{of_partition}
use Rattle.service_matrix.proofs.Squares.{is_matrix}
use Rattle.service_matrix.proofs.building.plain_matrix.Goals as goal

pub returns-in_err-groups-clause-refused : goal.returns-in_err-groups-clause-refused
returns-in_err-groups-clause-refused g c =
    let are = subst (λ (z : List (List Range)). AreAddressSets c.args.dump.now c.args.chain z) (sym c.as_slice.ensures.value) c.in_ok-sets.ensures in
    refused_by c.args.dump.now c.args.chain c.args.side c.as_slice.result.now are (c.in_ok-rules.ensures.checked, c.in_ok-rules.ensures.small) c.from_residual-in_err-groups.result c.in_err-groups.field-0.0
    c.from_residual-in_err-groups.ensures.1 c.in_err-groups.ensures.refused

pub joined-requires : goal.joined-requires
joined-requires g c =
    let are = subst (λ (z : List (List Range)). AreAddressSets c.args.dump.now c.args.chain z) (sym c.as_slice.ensures.value) c.in_ok-sets.ensures in
    let groups = subst (λ (z : List (List Range)). AreGroups g.row.W c.as_slice.result.now z) (sym c.as_slice-2.ensures) c.in_ok-groups.ensures.groups in
    let accepts = subst (λ (z : List (SimpleRule g.row.W)). Accepts c.args.side c.args.dump.now c.args.chain c.settled_policy-policy.result z) (sym c.as_slice-3.ensures)
    (c.in_ok-rules.ensures.meaning c.settled_policy-policy.result c.settled_policy-policy.ensures) in
    let order = of_partition g.row.W c.as_slice-2.result.now groups.partition in
    let alike = are_groups c.args.dump.now c.args.chain c.as_slice.result.now are c.args.service.now c.as_slice-2.result.now groups c.args.side c.settled_policy-policy.result c.as_slice-3.result.now accepts
    (λ s d x y. c.packets_are_valid.ensures g.row.W s d x y) in
    (omega arith, (omega arith, (omega arith, (c.requires.width, (order, alike)))))

pub returns-clause-matrix : goal.returns-clause-matrix
returns-clause-matrix g c =
    let are = subst (λ (z : List (List Range)). AreAddressSets c.args.dump.now c.args.chain z) (sym c.as_slice.ensures.value) c.in_ok-sets.ensures in
    let groups = subst (λ (z : List (List Range)). AreGroups g.row.W c.as_slice.result.now z) (sym c.as_slice-2.ensures) c.in_ok-groups.ensures.groups in
    let accepts = subst (λ (z : List (SimpleRule g.row.W)). Accepts c.args.side c.args.dump.now c.args.chain c.settled_policy-policy.result z) (sym c.as_slice-3.ensures)
    (c.in_ok-rules.ensures.meaning c.settled_policy-policy.result c.settled_policy-policy.ensures) in
    is_matrix (accepts_service c.as_slice-3.result.now c.settled_policy-policy.result c.args.service.now) c.as_slice-2.result.now c.in_ok-classes.classes.items c.in_ok-classes.ensures groups.partition
    (GoesTo c.args.side c.args.dump.now c.args.chain c.args.service.now)
    (means c.args.dump.now c.args.chain c.as_slice.result.now are c.args.service.now c.as_slice-2.result.now groups c.args.side c.settled_policy-policy.result c.as_slice-3.result.now accepts
    (λ s d x y. c.packets_are_valid.ensures g.row.W s d x y))
    (record { classes = c.in_ok-addresses.field-0; edges = c.in_ok-edges.field-0 })
    (c.in_ok-addresses.ensures ∙ ap addresses_of c.as_slice-4.ensures.value) (c.in_ok-edges.ensures ∙ ap edges_of c.as_slice-5.ensures.value)

pub returns-clause-few : goal.returns-clause-few
returns-clause-few g c =
    let are = subst (λ (z : List (List Range)). AreAddressSets c.args.dump.now c.args.chain z) (sym c.as_slice.ensures.value) c.in_ok-sets.ensures in
    few_sets c.args.dump.now c.args.chain c.args.side c.as_slice.result.now are (c.in_ok-rules.ensures.checked, c.in_ok-rules.ensures.small) c.in_ok-groups.ensures.few
