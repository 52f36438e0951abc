use Rattle.std.proofs.Common.{◌∙◌, ap, subst, sym}
use Rattle.std.specs.List.{AllByRecursion}
use Rattle.std.proofs.lemmas.Result.{IfOk-weaker}
use Rattle.box_norm.specs.Cubes.{any_holds}
use Rattle.box_norm.specs.Disjoint.{AreDisjoint}
use Rattle.box_norm.specs.Regular.{HasStates}
use Rattle.box_norm.proofs.OverlapLaws.{minus_holds}
use Rattle.box_norm.proofs.RestLaws.{minus_disjoint}
use Rattle.box_norm.proofs.StateLaws.{minus_states}
use Rattle.box_norm.proofs.cube.Cube.minus.Goals as goal

pub returns-clause-packets : goal.returns-clause-packets
returns-clause-packets g c = IfOk-weaker c.minus_spelled.result _ _ (λ l e p v. ap (λ s. any_holds s p) e ∙ minus_holds c.args.self.now c.args.other.now p v) c.minus_spelled.ensures

pub returns-clause-disjoint : goal.returns-clause-disjoint
returns-clause-disjoint g c = λ h k. IfOk-weaker c.minus_spelled.result _ _ (λ l e. subst AreDisjoint (sym e) (minus_disjoint c.args.self.now c.args.other.now h k)) c.minus_spelled.ensures

pub returns-clause-states : goal.returns-clause-states
returns-clause-states g c = λ h. IfOk-weaker c.minus_spelled.result _ _ (λ l e. subst (AllByRecursion HasStates) (sym e) (minus_states c.args.self.now c.args.other.now h)) c.minus_spelled.ensures
