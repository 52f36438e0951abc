use Rattle.std.proofs.Common.{◌≡◌, map, not, take}
use Rattle.std.specs.List.{filter}
use Rattle.request.specs.Arguments.{is_route}
use Rattle.request.proofs.line.parted.Given as goal

abbrev pub invariant-loop-argument : goal.invariant-loop-argument
invariant-loop-argument l =
    (map (λ s. s.now) l.others.items ≡ filter (λ text. not (is_route text)) (map (λ s. s.now) (take l.argument-index l.arguments)))
    × (map (λ s. s.now) l.routes.items ≡ filter is_route (map (λ s. s.now) (take l.argument-index l.arguments)))
