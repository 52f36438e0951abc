use Rattle.std.proofs.Common.{◌≡◌, rules}
use Rattle.dump_read.specs.declared.state.Part.{Part}
use Rattle.dump_read.proofs.ReadLemmas.{ends_undefined}
use Rattle.dump_read.proofs.state.State.end.Goals as goal

pub returns-in-Some-clause-fault : goal.returns-in-Some-clause-fault
returns-in-Some-clause-fault g c p s =
    let here : c.args.self.part ≡ Part.Outside = search rules in
    ends_undefined c.args.self p c.args.lines c.in-Some.line here c.if-not-self.false c.in-Some.is s
