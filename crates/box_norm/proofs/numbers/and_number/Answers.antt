use Rattle.std.proofs.Common.{◌≡◌, ◌∙◌, false, true, arith}
use Rattle.std.proofs.lemmas.Bool.Decides.{nat_tests}
use Rattle.std.proofs.lemmas.Result.{IfOk-weaker}
use Rattle.interval_set.specs.Numbers.{has}
use Rattle.box_norm.specs.Pieces.{single}
use Rattle.box_norm.proofs.RegularLaws.{and_none, and_one}
use Rattle.box_norm.proofs.numbers.and_number.Goals as goal

pub returns-then-not-contains : goal.returns-then-not-contains
returns-then-not-contains c =
    let lacks : has c.args.set.now c.args.number ≡ false = grind (arith, nat_tests, c.contains.ensures, c.if-not-contains.true) in
    c.empty.ensures ∙ and_none c.args.set.now c.args.number lacks

pub returns-then-is_only : goal.returns-then-is_only
returns-then-is_only c =
    let holds : has c.args.set.now c.args.number ≡ true = grind (arith, nat_tests, c.contains.ensures, c.if-not-contains.false) in
    let alone : c.args.set.now ≡ single c.args.number = grind (arith, c.is_only.ensures.alone, c.if-is_only.true) in
    IfOk-weaker c.copy.result _ _ (λ s e. e ∙ alone ∙ and_one c.args.set.now c.args.number (omega arith) holds) c.copy.ensures

pub returns : goal.returns
returns c =
    let holds : has c.args.set.now c.args.number ≡ true = grind (arith, nat_tests, c.contains.ensures, c.if-not-contains.false) in
    IfOk-weaker c.only.result _ _ (λ s e. e ∙ and_one c.args.set.now c.args.number (omega arith) holds) c.only.ensures
