use Rattle.std.proofs.Common.{ℕ, ◌≡◌, ◌∙◌, List, [], ap, subst, true, IfOk}
use Rattle.interval_set.specs.declared.set.Range.{Range}
use Rattle.interval_set.specs.Spelling.{set_not}
use Rattle.name_set.specs.declared.pattern.Pattern.{Pattern}
use Rattle.name_set.specs.Patterns.{fits}
use Rattle.iface_space.specs.Zones.{sources_of}
use Rattle.iface_space.proofs.zones.Zones.uncovered.Goals as goal

pub returns : goal.returns
returns g c =
    let empty : c.of.result ≡ [] = c.of.ensures ∙ c.new.ensures.items in
    let all : c.in_ok-covered.covered ≡ sources_of c.args.self.now (λ name. true) =
    c.in_ok-covered.ensures ∙ ap (λ (text : List ℕ). sources_of c.args.self.now (fits (Pattern.Prefix text))) empty in
    subst (λ (covered : List Range). IfOk c.not.result (λ s. s ≡ set_not g.row.W covered)) all c.not.ensures.spelled
