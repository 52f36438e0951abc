use Rattle.std.proofs.Common.{List, subst}
use Rattle.service_matrix.specs.declared.classes.Class.{Class}
use Rattle.service_matrix.specs.inner.Classes.{HasSameAt}
use Rattle.service_matrix.proofs.Joins.{put_at}
use Rattle.service_matrix.proofs.classes.put.Goals as goal

pub returns-in_ok-addresses-in-Some : goal.returns-in_ok-addresses-in-Some
returns-in_ok-addresses-in-Some g c =
    let there = subst (λ (z : List (Class g.row.W)). HasSameAt z c.args.new c.in-Some.at) c.as_slice.ensures.value c.in-Some.ensures in
    put_at c.args.classes.now.items c.args.new c.in-Some.at there c.index.result.now c.index_mut.result.now c.in_ok-addresses-in-Some.addresses c.index.ensures c.index_mut.ensures.value
    c.in_ok-addresses-in-Some.ensures.spelled
