use Rattle.std.proofs.Common.{sym, ◌∙◌}
use Rattle.name_set.proofs.Continuations.{last_fits, longer_fits, none_fits}
use Rattle.name_set.proofs.least.taken_by.Goals as goal

pub returns-then-matches_longer : goal.returns-then-matches_longer
returns-then-matches_longer c = λ b. longer_fits c.args.pattern.now c.args.name.now b (sym c.matches_longer.ensures ∙ c.if-matches_longer.true)

pub returns-in-Some : goal.returns-in-Some
returns-in-Some c = λ b. last_fits c.args.pattern.now c.args.name.now c.in-Some.byte b (sym c.text.ensures ∙ c.in-Some.ensures.some)

pub returns-in-None : goal.returns-in-None
returns-in-None c = λ b.
    none_fits c.args.pattern.now c.args.name.now b (sym c.matches_longer.ensures ∙ c.if-matches_longer.false) (λ is. c.in-None.ensures.none b (c.text.ensures ∙ is))
