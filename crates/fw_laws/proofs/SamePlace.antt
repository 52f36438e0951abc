-- What the test of two places tells.
use Rattle.std.specs.Prelude.{◌≡◌, true, refl}
use Rattle.std.proofs.Common.{ap, arith}
use Rattle.std.specs.Cmp.Lexicographic.{pointwise, pointwise_decides}
use Rattle.std.proofs.lemmas.Bool.Decides.{nat_tests}
use Rattle.fw_rule.specs.declared.rule.Place.{Place}
use Rattle.fw_rule.specs.declared.rule.Step.{Step}
use Rattle.fw_rule.specs.Walk.{same_step, same_place}

-- the tests of steps and places tell equality
steps_decide : (s t : Step) → (same_step s t ≡ true → s ≡ t) × (s ≡ t → same_step s t ≡ true)
steps_decide s t = (
  λ h. let a : s.chain ≡ t.chain = grind (arith, nat_tests) in let b : s.rule ≡ t.rule = grind (arith, nat_tests) in λ i. record { chain = a i; rule = b i },
  λ e. let a : s.chain ≡ t.chain = ap (λ (x : Step). x.chain) e in let b : s.rule ≡ t.rule = ap (λ (x : Step). x.rule) e in grind (arith, nat_tests),
)

pub place_from_same : (a b : Place) → same_place a b ≡ true → a ≡ b
place_from_same a b h =
    let steps : pointwise same_step a.steps b.steps ≡ true = grind (arith, nat_tests) in
    let lit : a.lit ≡ b.lit = grind (arith, nat_tests) in
    let path = (pointwise_decides steps_decide a.steps b.steps).0 steps in
    λ i. record { steps = path i; lit = lit i }

pub same_itself : (a : Place) → same_place a a ≡ true
same_itself a = let steps = (pointwise_decides steps_decide a.steps a.steps).1 refl in grind (arith, nat_tests, steps)
