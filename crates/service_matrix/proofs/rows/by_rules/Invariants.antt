use Rattle.std.proofs.Common.{◌≡◌, ℕ, ◌^◌, nat_lt, ◌&&◌, Bool, unwrap_or, drop}
use Rattle.box_norm.specs.Normal.{first_of}
use Rattle.service_matrix.specs.inner.Passes.{packet_at}
use Rattle.service_matrix.proofs.Passes.{left}
use Rattle.service_matrix.proofs.rows.by_rules.Given as goal

abbrev pub invariant-loop-rule : goal.invariant-loop-rule
invariant-loop-rule g l = (there : ℕ) (otherwise : Bool) → left l.fixed otherwise l.service l.here l.undecided l.accepted (drop l.rule-index l.rules) there
    ≡ (nat_lt there (2 ^ g.row.W) && unwrap_or (first_of l.rules (packet_at l.fixed l.service l.here there)) otherwise)
