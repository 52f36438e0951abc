use Rattle.std.proofs.Common.{◌∙◌, List, Bool, false, get_or, ap, sym}
use Rattle.chain_graph.proofs.loops.calls_itself.Goals as goal

pub returns-clause-yes : goal.returns-clause-yes
returns-clause-yes g c it = (c.in_ok-marks.ensures.is c.args.chain).0 (ap (λ (z : List Bool). get_or z c.args.chain false) (sym c.as_slice.ensures.value) ∙ sym c.is_marked.ensures ∙ it)

pub returns-clause-no : goal.returns-clause-no
returns-clause-no g c loop = c.is_marked.ensures ∙ ap (λ (z : List Bool). get_or z c.args.chain false) c.as_slice.ensures.value ∙ (c.in_ok-marks.ensures.is c.args.chain).1 loop
