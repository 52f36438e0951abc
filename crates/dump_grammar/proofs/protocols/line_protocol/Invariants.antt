use Rattle.std.proofs.Common.{ℕ, take}
use Rattle.dump_grammar.specs.Arguments.{LineProtocol}
use Rattle.dump_grammar.specs.GroupWords.{groups_of}
use Rattle.dump_grammar.proofs.protocols.line_protocol.Given as goal

abbrev pub invariant-loop-group : goal.invariant-loop-group
invariant-loop-group l = (n : ℕ) → LineProtocol (groups_of (take l.group-index l.groups)) n → ⊥
