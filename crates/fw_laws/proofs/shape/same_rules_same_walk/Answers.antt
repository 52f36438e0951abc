use Rattle.fw_laws.proofs.Alike.{same_states, same_verdict, same_may, same_must}
use Rattle.fw_laws.proofs.Settle.{settled_there}
use Rattle.std.proofs.Common.{sym}
use Rattle.fw_laws.proofs.shape.same_rules_same_walk.Goals as goal

pub returns : goal.returns
returns g c =
    let holds = g.P.Primitive.meaning in
    let one = c.args.one.now in
    let other = c.args.other.now in
    record {
      states = same_states holds one other c.args.p.now c.requires;
      verdict = same_verdict holds one other c.args.p.now c.requires;
      may = same_may holds one other c.args.p.now c.requires;
      settled = λ chain. (settled_there one other c.requires chain, settled_there other one (sym c.requires) chain);
      must = same_must holds one other c.args.p.now c.requires;
    }
