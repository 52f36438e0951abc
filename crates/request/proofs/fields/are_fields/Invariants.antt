use Rattle.std.proofs.Common.{◌≡◌, map, drop}
use Rattle.std.specs.List.{list_all}
use Rattle.request.specs.Fields.{is_field}
use Rattle.request.proofs.fields.are_fields.Given as goal

abbrev pub invariant-loop-argument : goal.invariant-loop-argument
invariant-loop-argument l = list_all is_field (map (λ s. s.now) (drop l.argument-index l.arguments)) ≡ list_all is_field (map (λ s. s.now) l.arguments)
