use Rattle.std.proofs.Common.{◌∙◌, sym}
use Rattle.request.proofs.FieldLemmas.{first_kept, no_values, none_more, second_found, step}
use Rattle.request.proofs.fields.value_of.Goals as goal
use Rattle.request.proofs.fields.value_of.Goals.{in-Some+else-is_some, in_default}

pub loop-argument-init : goal.loop-argument-init
loop-argument-init c = no_values c.args.field.now

pub loop-argument-preserved : goal.loop-argument-preserved
loop-argument-preserved c =
    let found = step c.args.field.now c.args.arguments.now c.loop-argument.argument-index _ _ _ _ c.loop-argument-test.true c.as_bytes.ensures.value c.value_after.ensures c.loop-argument.invariant in
    elim c.match-value_after.branch [
      | in-Some+else-is_some w ↦ first_kept c.loop-argument.given _ _ _ (sym w.is_some.ensures ∙ w.if-is_some.false) (w.in-Some.is ∙ sym w.given-is) found
      | in_default w ↦ none_more c.loop-argument.given _ _ _ w.in_default.is w.given-is found
    ]

pub returns-then-is_some-clause-two : goal.returns-then-is_some-clause-two
returns-then-is_some-clause-two c =
    let found = step c.args.field.now c.args.arguments.now c.loop-argument.argument-index _ _ _ _ c.loop-argument-test.true c.as_bytes.ensures.value c.value_after.ensures c.loop-argument.invariant in
    second_found c.args.field.now c.args.arguments.now _ c.loop-argument.given _ _ (sym c.is_some.ensures ∙ c.if-is_some.true) c.in-Some.is found
