use Rattle.request.specs.Lines.{line_parts}
use Rattle.request.proofs.ModeLemmas.{matrix_bound, matrix_suits, routes_bound, spoof_bound, zones_bound}
use Rattle.request.proofs.line.mode.Goals as goal

pub returns-then-eq-4-clause-suits : goal.returns-then-eq-4-clause-suits
returns-then-eq-4-clause-suits c = matrix_suits c.args.six (line_parts c.args.line.now) c.matrix.result c.matrix.ensures.ok

pub returns-then-eq-4-clause-valid : goal.returns-then-eq-4-clause-valid
returns-then-eq-4-clause-valid c = matrix_bound c.args.six (line_parts c.args.line.now) c.matrix.result c.matrix.ensures.ok

pub returns-then-eq-5-clause-valid : goal.returns-then-eq-5-clause-valid
returns-then-eq-5-clause-valid c = spoof_bound c.args.six (line_parts c.args.line.now) c.spoof.result c.spoof.ensures.ok

pub returns-then-eq-9-clause-valid : goal.returns-then-eq-9-clause-valid
returns-then-eq-9-clause-valid c = zones_bound c.args.six (line_parts c.args.line.now) c.zones.result c.zones.ensures.ok

pub returns-then-eq-10-clause-valid : goal.returns-then-eq-10-clause-valid
returns-then-eq-10-clause-valid c = routes_bound c.args.six (line_parts c.args.line.now) c.routes.result c.routes.ensures.ok
