use Rattle.std.proofs.Common.{◌≡◌, map, option_map, take}
use Rattle.std.specs.Option.{option_to_list}
use Rattle.request.specs.Fields.{values_of}
use Rattle.request.proofs.fields.value_of.Given as goal

abbrev pub invariant-loop-argument : goal.invariant-loop-argument
invariant-loop-argument l = values_of l.field (map (λ s. s.now) (take l.argument-index l.arguments)) ≡ option_to_list (option_map (λ v. v.now) l.given)
