use Rattle.std.proofs.Common.{◌≡◌, IfOk, refl, subst}
use Rattle.fw_rule.specs.declared.rule.Dump.{Dump}
use Rattle.fw_rule.proofs.Unchanged.{unchanged}
use Rattle.fw_rule.proofs.rule.Dump.copy.Goals as goal

pub returns : goal.returns
returns g c = subst (λ (d : Dump _). IfOk c.mapped.result (λ x. x ≡ d))
    (unchanged (λ lit. lit) (λ lit. refl) c.args.self.now) c.mapped.ensures
