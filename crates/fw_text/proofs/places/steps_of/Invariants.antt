use Rattle.std.proofs.Common.{◌≡◌, take}
use Rattle.fw_text.specs.Places.{steps_text}
use Rattle.fw_text.proofs.places.steps_of.Given as goal

abbrev pub invariant-loop-i : goal.invariant-loop-i
invariant-loop-i g l = l.text.items ≡ steps_text l.dump (take l.i l.steps)
