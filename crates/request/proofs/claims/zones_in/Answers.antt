use Rattle.std.proofs.Common.{Bool, List, map, subst, sym}
use Rattle.std.specs.Result.{IfOk}
use Rattle.request.specs.declared.types.Claim.{Claim}
use Rattle.request.specs.Arguments.{SpellZones}
use Rattle.request.specs.Fields.{SaysAddress}
use Rattle.request.specs.Requests.{width_of}
use Rattle.request.proofs.claims.zones_in.Goals as goal

pub returns-then-six-clause-ok : goal.returns-then-six-clause-ok
returns-then-six-clause-ok c =
    subst (λ (six : Bool). IfOk c.read_zones.result (SpellZones (SaysAddress six) (width_of six) (map (λ s. s.now) c.args.arguments.now))) (sym c.if-six.true) c.read_zones.ensures.ok

pub returns-then-six-clause-usage : goal.returns-then-six-clause-usage
returns-then-six-clause-usage c error =
    subst (λ (six : Bool). (xs : List Claim) → SpellZones (SaysAddress six) (width_of six) (map (λ s. s.now) c.args.arguments.now) xs → ⊥) (sym c.if-six.true)
    (c.read_zones.ensures.usage error)

pub returns-else-six-clause-ok : goal.returns-else-six-clause-ok
returns-else-six-clause-ok c =
    subst (λ (six : Bool). IfOk c.read_zones-else-six.result (SpellZones (SaysAddress six) (width_of six) (map (λ s. s.now) c.args.arguments.now))) (sym c.if-six.false) c.read_zones-else-six.ensures.ok

pub returns-else-six-clause-usage : goal.returns-else-six-clause-usage
returns-else-six-clause-usage c error =
    subst (λ (six : Bool). (xs : List Claim) → SpellZones (SaysAddress six) (width_of six) (map (λ s. s.now) c.args.arguments.now) xs → ⊥) (sym c.if-six.false)
    (c.read_zones-else-six.ensures.usage error)
