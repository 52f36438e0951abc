use Rattle.std.proofs.Common.{◌≡◌, ℕ, drop}
use Rattle.box_norm.specs.Normal.{first_of}
use Rattle.service_packet.specs.Packets.{service_packet}
use Rattle.service_matrix.proofs.Passes.{kept_and_left}
use Rattle.service_matrix.proofs.rows.on_service.Given as goal

abbrev pub invariant-loop-rule : goal.invariant-loop-rule
invariant-loop-rule g l = (s d : ℕ) → kept_and_left l.service l.kept.items (drop l.rule-index l.rules) s d ≡ first_of l.rules (service_packet l.service s d)
