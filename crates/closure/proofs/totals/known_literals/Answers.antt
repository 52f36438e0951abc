use Rattle.std.proofs.Common.{◌≡◌, map, arith, ap, ◌∙◌}
use Rattle.std.proofs.lemmas.Grind.{common_steps}
use Rattle.match_expr.specs.Meaning.{sum_of}
use Rattle.closure.specs.inner.Counts.{capped}
use Rattle.closure.specs.inner.Totals.{lit_count}
use Rattle.closure.proofs.TotalLemmas.{known_counted}
use Rattle.closure.proofs.totals.known_literals.Goals as goal

pub returns : goal.returns
returns g c =
    let all : c.loop-lit.count ≡ capped (sum_of (map lit_count c.args.rule.now.lits)) = grind (arith, common_steps) in
    all ∙ ap capped (known_counted c.args.rule.now.lits)
