use Rattle.std.proofs.Common.{refl}
use Rattle.dump_grammar.proofs.line_literals.option_literal.Goals as goal

pub returns-in-Some : goal.returns-in-Some
returns-in-Some g c = let w = rw c.in-Some.is at c.in_ok-expr.ensures.some in (w.0, (w.1.0, refl, w.1.1))
