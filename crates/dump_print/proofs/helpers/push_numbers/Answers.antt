use Rattle.std.proofs.Common.{◌≡◌, ◌∙◌, ◌++◌, ◌+◌, ◌-◌, ap, arith}
use Rattle.dump_print.specs.Numbers.{numbers_from}
use Rattle.dump_print.proofs.HelperLemmas.{numbers_more, numbers_none}
use Rattle.dump_print.proofs.helpers.push_numbers.Goals as goal

pub loop-number-init : goal.loop-number-init
loop-number-init c = numbers_none c.args.range.lo _

pub loop-number-preserved : goal.loop-number-preserved
loop-number-preserved c = numbers_more c.args.range.lo c.loop-number.number _ _ _ (omega arith) c.loop-number.invariant c.in_ok-push.ensures.items

pub returns : goal.returns
returns c = let last : c.loop-number.number ≡ c.args.range.hi + 1 = omega arith in
    c.loop-number.invariant ∙ ap (λ n. c.args.numbers.now.items ++ numbers_from c.args.range.lo (n - c.args.range.lo)) last
