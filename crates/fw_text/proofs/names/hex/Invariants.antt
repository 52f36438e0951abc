use Rattle.std.proofs.Common.{◌≡◌, ◌++◌, drop}
use Rattle.fw_text.specs.Names.{hex_of}
use Rattle.fw_text.proofs.names.hex.Given as goal

abbrev pub invariant-loop-byte : goal.invariant-loop-byte
invariant-loop-byte l = l.text.items ++ hex_of (drop l.byte-index l.name) ≡ hex_of l.name
