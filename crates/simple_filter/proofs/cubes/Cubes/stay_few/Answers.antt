use Rattle.std.proofs.Common.{◌∙◌, sym}
use Rattle.simple_filter.proofs.ShortCuts.{stay_few}
use Rattle.simple_filter.proofs.cubes.Cubes.stay_few.Goals as goal

pub returns-then-not-self : goal.returns-then-not-self
returns-then-not-self g c tests =
    stay_few g.row.W c.self.inside.is_over c.self.inside.list c.args.self.now c.self.view_is c.if-not-self.true c.self.invariant c.args.e.now (sym c.are_tests.ensures ∙ tests)
