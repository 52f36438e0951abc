use Rattle.std.proofs.Common.{◌≡◌, ◌∙◌, false, ap, arith, sym}
use Rattle.std.proofs.lemmas.Bool.Decides.{nat_tests}
use Rattle.std.proofs.lemmas.Result.{IfOk-weaker}
use Rattle.interval_set.specs.Numbers.{has}
use Rattle.interval_set.specs.Spelling.{set_minus}
use Rattle.box_norm.specs.Pieces.{single}
use Rattle.box_norm.proofs.RegularLaws.{minus_none, minus_same}
use Rattle.box_norm.proofs.numbers.minus_number.Goals as goal

pub returns-then-is_only : goal.returns-then-is_only
returns-then-is_only c =
    let alone : c.args.set.now ≡ single c.args.number = grind (arith, c.is_only.ensures.alone, c.if-is_only.true) in
    c.empty.ensures ∙ minus_same c.args.number ∙ ap (λ z. set_minus 8 z (single c.args.number)) (sym alone)

pub returns-then-not-contains : goal.returns-then-not-contains
returns-then-not-contains c =
    let lacks : has c.args.set.now c.args.number ≡ false = grind (arith, nat_tests, c.contains.ensures, c.if-not-contains.true) in
    IfOk-weaker c.copy.result _ _ (λ s e. e ∙ minus_none c.args.set.now c.args.number c.is_only.ensures.set lacks) c.copy.ensures
