use Rattle.std.proofs.Common.{◌≡◌, ◌++◌}
use Rattle.load_dump.specs.Generated.{head_text, rule_lines}
use Rattle.load_dump.proofs.generating.load_text.Given as goal

abbrev pub invariant-loop-i : goal.invariant-loop-i
invariant-loop-i l = l.text.items ≡ head_text ++ rule_lines l.i
