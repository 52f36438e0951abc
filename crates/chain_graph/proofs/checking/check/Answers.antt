use Rattle.std.proofs.Common.{rules}
use Rattle.chain_graph.specs.Faults.{NoneUnsupported}
use Rattle.chain_graph.specs.Results.{IsRanked}
use Rattle.chain_graph.proofs.TableLemmas.{passes}
use Rattle.chain_graph.proofs.TargetLemmas.{settled}
use Rattle.chain_graph.proofs.checking.check.Goals as goal

pub returns-in-Some-2-clause-settled : goal.returns-in-Some-2-clause-settled
returns-in-Some-2-clause-settled g c =
    let known : NoneUnsupported c.args.dump.now c.args.chain = search rules in
    let ranked : IsRanked c.args.dump.now c.args.chain c.in-Some-2.answer = search rules in
    settled c.args.dump.now c.args.chain c.requires.named known ranked.no_loop

pub returns-in-Some-2-clause-passes : goal.returns-in-Some-2-clause-passes
returns-in-Some-2-clause-passes g c =
    let known : NoneUnsupported c.args.dump.now c.args.chain = search rules in
    let ranked : IsRanked c.args.dump.now c.args.chain c.in-Some-2.answer = search rules in
    passes c.args.dump.now c.args.chain c.in-Some-2.answer c.requires.there ranked
    (settled c.args.dump.now c.args.chain c.requires.named known ranked.no_loop)
