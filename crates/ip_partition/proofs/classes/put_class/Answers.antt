use Rattle.std.proofs.Common.{◌∙◌, sym, ap, arith, get_or}
use Rattle.interval_set.specs.Numbers.{has}
use Rattle.ip_partition.proofs.Gathering.{leading_atom, other_atom, whole_run}
use Rattle.ip_partition.proofs.classes.put_class.Goals as goal

pub returns-then-leaders-atom : goal.returns-then-leaders-atom
returns-then-leaders-atom g c =
    let read = ap (λ ls. get_or ls c.args.atom 0) c.as_slice-leaders.ensures.value in
    other_atom g.row.W c.args.starts.now c.args.numbering.now.leaders.items c.args.atom c.args.classes.now.items (λ e. omega (arith, e, read)) c.requires.classes

pub returns : goal.returns
returns g c =
    let read = ap (λ ls. get_or ls c.args.atom 0) c.as_slice-leaders.ensures.value in
    leading_atom g.row.W c.args.starts.now c.args.numbering.now.leaders.items c.args.atom c.args.classes.now.items c.in_ok-class.class c.push.new.self.items (omega (arith, read))
    (λ n.
    let v = c.in_ok-ranges.ensures.numbers n in
    let e = c.in_ok-class.ensures n ∙ whole_run c.as_slice-found.result.now n ∙ ap (λ rs. has rs n) c.as_slice-found.ensures.value in
    (λ t. v.0 (sym e ∙ t), λ p. e ∙ v.1 p))
    c.in_ok-push.ensures.items c.requires.classes
