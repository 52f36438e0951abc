use Rattle.std.proofs.Common.{◌-◌, length, sym}
use Rattle.service_matrix.proofs.Lines.{known_line_ok}
use Rattle.service_matrix.proofs.joining.line_at.Goals as goal

pub returns-then-alike : goal.returns-then-alike
returns-then-alike g c =
    known_line_ok c.args.rules.now c.args.policy c.args.service.now c.args.fixed c.args.known.now (length c.args.known.now - 1) c.in-Some.class.now c.requires.known
    (sym c.in-Some.ensures.value) c.args.here (c.alike.ensures c.if-alike.true) c.line.result c.line.ensures
