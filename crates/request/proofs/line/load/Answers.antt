use Rattle.std.proofs.Common.{◌∙◌, ap, map, sym, List, ℕ, Bor}
use Rattle.request.specs.Lines.{line_parts}
use Rattle.request.proofs.ModeLemmas.{no_rules}
use Rattle.request.proofs.line.load.Goals as goal

pub returns-then-count-eq0-clause-none : goal.returns-then-count-eq0-clause-none
returns-then-count-eq0-clause-none c =
    no_rules (line_parts c.args.line.now) c.in_ok-argument.argument.now c.in_ok-count.count
    (ap (map (λ (s : Bor (List ℕ)). s.now)) (sym c.deref.ensures.value) ∙ c.in_ok-argument.ensures.some) (sym c.as_bytes.ensures.value ∙ c.in_ok-count.ensures.some) c.if-count-eq0.true
