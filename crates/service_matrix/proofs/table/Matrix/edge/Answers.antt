use Rattle.std.proofs.Common.{List, ◌∙◌, [], false, unwrap_or, ap, subst, arith}
use Rattle.interval_set.specs.declared.set.Range.{Range}
use Rattle.ip_partition.specs.Partition.{IsIn}
use Rattle.service_matrix.proofs.EdgeReads.{edge_none, edge_read}
use Rattle.service_matrix.proofs.table.Matrix.edge.Goals as goal

pub returns-in-Some-get : goal.returns-in-Some-get
returns-in-Some-get g c i j x y =
    edge_read c.args.self.now.edges c.as_slice.result.now c.in-Some-get.row.now c.as_slice-in-Some-get.result.now i j c.in-Some.from c.in-Some-class_of.to c.unwrap_or.result
    c.as_slice.ensures (((c.in-Some-get.ensures.lookup).3).1 []) c.as_slice-in-Some-get.ensures
    (c.unwrap_or.ensures ∙ ap (λ o. unwrap_or o false) c.copied.ensures ∙ (c.get-in-Some-get.ensures.lookup).4 (omega arith) false)
    (c.requires.disjoint i c.in-Some.from c.args.s x (subst (λ (z : List (List Range)). IsIn z c.in-Some.from c.args.s) c.as_slice-classes.ensures c.in-Some.ensures))
    (c.requires.disjoint j c.in-Some-class_of.to c.args.d y (subst (λ (z : List (List Range)). IsIn z c.in-Some-class_of.to c.args.d) c.as_slice-classes.ensures c.in-Some-class_of.ensures))

pub returns-in-None : goal.returns-in-None
returns-in-None g c i j x y =
    edge_none c.args.self.now.edges c.as_slice.result.now i j c.in-Some.from c.as_slice.ensures (c.in-None.ensures.lookup).3
    (c.requires.disjoint i c.in-Some.from c.args.s x (subst (λ (z : List (List Range)). IsIn z c.in-Some.from c.args.s) c.as_slice-classes.ensures c.in-Some.ensures))
