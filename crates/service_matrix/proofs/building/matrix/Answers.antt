use Rattle.std.proofs.Common.{◌∙◌, IfErr, IfOk, subst, sym, arith}
use Rattle.fw_rule.specs.declared.rule.Dump.{Dump}
use Rattle.fw_rule.specs.Calls.{HasRoom}
use Rattle.chain_graph.specs.Paths.{CallsNameChains}
use Rattle.closure.specs.Checked.{HasPolicy}
use Rattle.primitives.specs.declared.prim.Prim_.{Prim_}
use Rattle.simple_filter.specs.Hidden.{hidden}
use Rattle.simple_filter.specs.declared.hiding.Hide.{Hide}
use Rattle.service_matrix.specs.Matrices.{IsMatrix}
use Rattle.service_matrix.specs.Refusals.{RefusesSets}
use Rattle.service_matrix.specs.Services.{Edge, GoesTo}
use Rattle.service_matrix.proofs.Built.{names_of}
use Rattle.service_matrix.proofs.OneMatrix.{coarsest_of}
use Rattle.service_matrix.proofs.building.matrix.Goals as goal

pub plain_matrix-requires : goal.plain_matrix-requires
plain_matrix-requires g c =
    let has : HasPolicy (hidden Hide.BothNames c.args.dump.now) c.args.chain = ((c.requires.policy).0, c.hiding_keeps_calls.ensures.policy Hide.BothNames c.args.chain ∙ (c.requires.policy).1) in
    let policy = subst (λ (d : Dump (Prim_ g.row.W)). HasPolicy d c.args.chain) (sym c.in_ok-hidden.ensures) has in
    let room = subst (λ (d : Dump (Prim_ g.row.W)). HasRoom d) (sym c.in_ok-hidden.ensures) (c.hiding_keeps_calls.ensures.room Hide.BothNames c.requires.room) in
    let named = subst (λ (d : Dump (Prim_ g.row.W)). CallsNameChains d) (sym c.in_ok-hidden.ensures) (c.hiding_keeps_calls.ensures.named Hide.BothNames c.requires.named) in
    (omega arith, (omega arith, (c.requires.width, (policy, (room, named)))))

pub returns-clause-coarsest : goal.returns-clause-coarsest
returns-clause-coarsest g c = coarsest_of (Edge c.args.side c.args.dump.now c.args.chain c.args.service.now) c.plain_matrix.result
    (subst (λ (d : Dump (Prim_ g.row.W)). IfOk c.plain_matrix.result (IsMatrix (GoesTo c.args.side d c.args.chain c.args.service.now))) c.in_ok-hidden.ensures c.plain_matrix.ensures.matrix)

pub returns-clause-names : goal.returns-clause-names
returns-clause-names g c = names_of c.args.dump.now c.args.chain c.args.side c.args.service.now c.in_ok-hidden.hidden c.plain_matrix.result c.in_ok-hidden.ensures c.plain_matrix.ensures.matrix c.plain_matrix.ensures.few

pub returns-clause-refused : goal.returns-clause-refused
returns-clause-refused g c = subst (λ (d : Dump (Prim_ g.row.W)). IfErr c.plain_matrix.result (RefusesSets d c.args.chain c.args.side)) c.in_ok-hidden.ensures c.plain_matrix.ensures.refused
