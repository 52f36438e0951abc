use Rattle.std.proofs.Common.{◌≡◌, ◌∙◌, List, ℕ, ap, rules}
use Rattle.std.specs.Str.{bytes_eq}
use Rattle.std.proofs.lemmas.Result.{IfOk-weaker}
use Rattle.iface_space.specs.Routes.{targets_of}
use Rattle.fffuu_run.proofs.routing.targets.Goals as goal

pub returns : goal.returns
returns g c =
    let name : c.of.result ≡ c.args.name.now = search rules in
    IfOk-weaker c.targets.result _ _ (λ set is. is ∙ ap (λ (t : List ℕ). targets_of g.row.W c.args.routes.now (bytes_eq t)) name) c.targets.ensures
