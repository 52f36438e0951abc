use Rattle.std.proofs.Common.{ℕ, Bool, List, [], subst, sym, arith}
use Rattle.std.specs.List.{AllByRecursion}
use Rattle.box_norm.specs.declared.cube.SimpleRule.{SimpleRule}
use Rattle.service_matrix.specs.inner.Classes.{AreClasses, IsGroup}
use Rattle.service_matrix.specs.inner.Passes.{AnswerAlike}
use Rattle.service_matrix.proofs.Passes.{over_ok, same_accepted}
use Rattle.service_matrix.proofs.joining.joined.Goals as goal

pub joined_by-requires : goal.joined_by-requires
joined_by-requires g c =
    let alike = subst (λ (z : List (SimpleRule g.row.W)). AnswerAlike c.args.service.now z c.args.rules.now) (sym c.as_slice.ensures.value) c.in_ok-kept.ensures in
    let same = same_accepted c.args.service.now c.as_slice.result.now c.args.rules.now alike c.args.policy in
    (omega arith, (omega arith, (omega arith, (c.requires.width, (c.requires.order, subst (λ (f : ℕ → ℕ → Bool). AllByRecursion (IsGroup g.row.W f) c.args.groups.now) (sym same) c.requires.alike)))))

pub returns : goal.returns
returns g c =
    let alike = subst (λ (z : List (SimpleRule g.row.W)). AnswerAlike c.args.service.now z c.args.rules.now) (sym c.as_slice.ensures.value) c.in_ok-kept.ensures in
    let same = same_accepted c.args.service.now c.as_slice.result.now c.args.rules.now alike c.args.policy in
    over_ok c.joined_by.result (λ (f : ℕ → ℕ → Bool) classes. AreClasses f c.args.groups.now [] classes.items) same c.joined_by.ensures
