use Rattle.std.proofs.Common.{Bool, List, map, subst, sym}
use Rattle.std.specs.Result.{IfOk}
use Rattle.iface_space.specs.declared.hop.Hop.{Hop}
use Rattle.request.specs.Arguments.{SpellRoutes}
use Rattle.request.specs.Fields.{SaysAddress}
use Rattle.request.specs.Requests.{width_of}
use Rattle.request.proofs.routes.routes_in.Goals as goal

pub returns-then-six-clause-ok : goal.returns-then-six-clause-ok
returns-then-six-clause-ok c =
    subst (λ (six : Bool). IfOk c.read_table.result (SpellRoutes (SaysAddress six) (width_of six) (map (λ s. s.now) c.args.arguments.now))) (sym c.if-six.true) c.read_table.ensures.ok

pub returns-then-six-clause-usage : goal.returns-then-six-clause-usage
returns-then-six-clause-usage c error =
    subst (λ (six : Bool). (xs : List Hop) → SpellRoutes (SaysAddress six) (width_of six) (map (λ s. s.now) c.args.arguments.now) xs → ⊥) (sym c.if-six.true)
    (c.read_table.ensures.usage error)

pub returns-else-six-clause-ok : goal.returns-else-six-clause-ok
returns-else-six-clause-ok c =
    subst (λ (six : Bool). IfOk c.read_table-else-six.result (SpellRoutes (SaysAddress six) (width_of six) (map (λ s. s.now) c.args.arguments.now))) (sym c.if-six.false) c.read_table-else-six.ensures.ok

pub returns-else-six-clause-usage : goal.returns-else-six-clause-usage
returns-else-six-clause-usage c error =
    subst (λ (six : Bool). (xs : List Hop) → SpellRoutes (SaysAddress six) (width_of six) (map (λ s. s.now) c.args.arguments.now) xs → ⊥) (sym c.if-six.false)
    (c.read_table-else-six.ensures.usage error)
