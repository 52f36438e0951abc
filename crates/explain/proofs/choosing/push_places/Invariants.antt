use Rattle.std.proofs.Common.{◌≡◌, ◌++◌, drop}
use Rattle.explain.specs.Choices.{unknown_places}
use Rattle.explain.proofs.choosing.push_places.Given as goal

abbrev pub invariant-loop-lit : goal.invariant-loop-lit
invariant-loop-lit g l =
    record { number : l.number ≡ l.lit-index; places : l.places.items ++ unknown_places l.path l.number (drop l.lit-index l.lit-items) ≡ l.initial.places.items ++ unknown_places l.path 0 l.rule.lits }
