use Rattle.std.proofs.Common.{◌∙◌}
use Rattle.fffuu_run.specs.Runs.{Devices}
use Rattle.fffuu_run.proofs.Cases.{exact, told_named}
use Rattle.fffuu_run.proofs.top.run.Goals as goal

pub returns-clause-exact : goal.returns-clause-exact
returns-clause-exact g c =
    let old : Devices = record {
      source = record { bytes = g.S.Source.left c.args.source.now; faults = g.S.Source.faults c.args.source.now };
      sink = record { bytes = g.O.Sink.held c.args.out.now; faults = g.O.Sink.faults c.args.out.now };
    } in
    let new : Devices = record {
      source = record { bytes = g.S.Source.left c.answered-status.new.source; faults = g.S.Source.faults c.answered-status.new.source };
      sink = record { bytes = g.O.Sink.held c.answered-status.new.out; faults = g.O.Sink.faults c.answered-status.new.out };
    } in
    exact _ old new c.answered-status.result.status c.report.result c.answered-status.ensures.ends c.report.ensures.settled

pub returns-clause-told : goal.returns-clause-told
returns-clause-told g c = told_named _ _ _ _ c.answered-status.result.status c.report.result (λ is. c.as_slice.ensures ∙ c.answered-status.ensures.named is) c.report.ensures.settled c.report.ensures.told
