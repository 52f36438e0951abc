use Rattle.std.proofs.Common.{◌∙◌, ap}
use Rattle.std.proofs.lemmas.Result.{IfOk-weaker}
use Rattle.box_norm.specs.Overlaps.{holds_some}
use Rattle.box_norm.proofs.OverlapLaws.{and_holds}
use Rattle.box_norm.proofs.StateLaws.{some_states}
use Rattle.box_norm.proofs.cube.Cube.and.Goals as goal

pub returns-clause-packets : goal.returns-clause-packets
returns-clause-packets g c = IfOk-weaker c.and_spelled.result _ _ (λ o e p v. ap (λ s. holds_some s p) e ∙ and_holds c.args.self.now c.args.other.now p v) c.and_spelled.ensures

pub returns-clause-states : goal.returns-clause-states
returns-clause-states g c = λ h. IfOk-weaker c.and_spelled.result _ _ (λ o e. some_states o c.args.self.now c.args.other.now e h) c.and_spelled.ensures
