use Rattle.std.proofs.Common.{◌≡◌, ◌++◌, drop}
use Rattle.fffuu_run.specs.Explanations.{place_lines}
use Rattle.fffuu_run.proofs.explaining.place_lines.Given as goal

abbrev pub invariant-loop-place : goal.invariant-loop-place
invariant-loop-place g l = l.text.items ++ place_lines l.dump (drop l.place-index l.places) ≡ place_lines l.dump l.places
