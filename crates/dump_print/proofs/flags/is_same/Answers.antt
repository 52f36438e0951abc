use Rattle.std.proofs.Common.{◌≡◌, ◌^◌, false, rules, arith, sym}
use Rattle.dump_print.proofs.FlagLemmas.{all_below_fails, differ_at, same_at, shl_is}
use Rattle.dump_print.proofs.flags.is_same.Goals as goal

pub returns-then-has_number : goal.returns-then-has_number
returns-then-has_number c =
    let differ : same_at c.args.numbers c.args.weight c.loop-n.n ≡ false = search (rules, differ_at) in
    sym (all_below_fails (2 ^ c.args.count) c.loop-n.n (same_at c.args.numbers c.args.weight) (omega (arith, shl_is c.args.count c.requires.few)) differ)
