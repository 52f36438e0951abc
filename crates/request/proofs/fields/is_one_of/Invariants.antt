use Rattle.std.proofs.Common.{◌≡◌, map, drop}
use Rattle.std.specs.Prelude.{is_some}
use Rattle.std.specs.List.{list_any}
use Rattle.request.specs.Fields.{value_after}
use Rattle.request.proofs.fields.is_one_of.Given as goal

abbrev pub invariant-loop-field : goal.invariant-loop-field
invariant-loop-field l = list_any (λ field. is_some (value_after field l.argument)) (map (λ f. f.now) (drop l.field-index l.fields))
    ≡ list_any (λ field. is_some (value_after field l.argument)) (map (λ f. f.now) l.fields)
