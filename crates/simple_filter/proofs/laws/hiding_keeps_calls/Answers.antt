use Rattle.std.specs.Prelude.{ℕ, ◌<◌}
use Rattle.std.proofs.Common.{subst, sym}
use Rattle.fw_rule.specs.Hiding.{hidden_literal}
use Rattle.fw_laws.proofs.Mapping as laws
use Rattle.simple_filter.specs.Hidden.{hides}
use Rattle.simple_filter.proofs.laws.hiding_keeps_calls.Goals as goal

pub returns : goal.returns
returns g c = record {
  room = λ hide. laws.room_stays c.args.dump.now (hidden_literal (hides hide));
  named = λ hide calls a b q.
      let same = laws.calls_stay c.args.dump.now (hidden_literal (hides hide)) in
      subst (λ (n : ℕ). b < n) (sym same.0) (calls a b ((same.1 a b).1 q));
  policy = λ hide. laws.policies_stay c.args.dump.now (hidden_literal (hides hide));
}
