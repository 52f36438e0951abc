use Rattle.std.proofs.Common.{◌∙◌, ◌++◌, ◌-◌, true, false, ap, append-nil, arith, sym}
use Rattle.std.proofs.lemmas.Result.{on_ok_weaker}
use Rattle.dump_print.proofs.FlagLemmas.{half_of, no_flag, other_halves, same_halves}
use Rattle.primitives.proofs.Growing.{grown}
use Rattle.dump_print.proofs.flags.+add_cubes.Goals as goal

pub returns-in_ok-push : goal.returns-in_ok-push
returns-in_ok-push t c =
    c.in_ok-push.ensures.items
    ∙ ap (λ l. c.args.out.now.items ++ l) (sym (no_flag c.args.numbers c.args.weight c.args.count c.args.front true c.if-count-eq0.true (sym c.has_number.ensures ∙ c.if-has_number.true)))

pub returns-else-has_number : goal.returns-else-has_number
returns-else-has_number t c =
    sym (append-nil c.args.out.now.items)
    ∙ ap (λ l. c.args.out.now.items ++ l) (sym (no_flag c.args.numbers c.args.weight c.args.count c.args.front false c.if-count-eq0.true (sym c.has_number.ensures ∙ c.if-has_number.false)))

pub is_same-requires-clause-weights : goal.is_same-requires-clause-weights
is_same-requires-clause-weights t c = (half_of c.args.weight c.args.count (c.args.count - 1) (omega arith) c.requires.few c.requires.weights).half

pub add_cubes-requires : goal.add_cubes-requires
add_cubes-requires t c =
    let h = half_of c.args.weight c.args.count (c.args.count - 1) (omega arith) c.requires.few c.requires.weights in
    (omega arith, (omega arith, (h.twice, (omega arith, omega arith))))

pub returns-then-is_same : goal.returns-then-is_same
returns-then-is_same t c =
    on_ok_weaker c.add_cubes.result
    (λ h. h ∙ ap (λ l. c.args.out.now.items ++ l)
    (sym (same_halves c.args.numbers c.args.weight c.args.count (c.args.count - 1) c.args.front (omega arith) (sym c.is_same.ensures ∙ c.if-is_same.true))))
    c.add_cubes.ensures

pub add_cubes-requires-2 : goal.add_cubes-requires-2
add_cubes-requires-2 t c =
    let h = half_of c.args.weight c.args.count (c.args.count - 1) (omega arith) c.requires.few c.requires.weights in
    (omega arith, (omega arith, (h.twice, (omega arith, omega arith))))

pub overflow_shr-numbers : goal.overflow_shr-numbers
overflow_shr-numbers t c =
    let h = half_of c.args.weight c.args.count (c.args.count - 1) (omega arith) c.requires.few c.requires.weights in
    omega (arith, h.small)

pub add_cubes-requires-3 : goal.add_cubes-requires-3
add_cubes-requires-3 t c =
    let h = half_of c.args.weight c.args.count (c.args.count - 1) (omega arith) c.requires.few c.requires.weights in
    (omega arith, (omega arith, (h.twice, (omega arith, omega arith))))

pub returns : goal.returns
returns t c =
    on_ok_weaker c.add_cubes-3.result
    (λ h. grown _ _ _ _ _ _ c.in_ok-add_cubes.ensures h
    (other_halves c.args.numbers c.args.weight c.args.count (c.args.count - 1) c.args.front (omega arith) (sym c.is_same.ensures ∙ c.if-is_same.false)))
    c.add_cubes-3.ensures
