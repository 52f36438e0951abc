use Rattle.std.proofs.Common.{ap, ◌∙◌, sym, Some}
use Rattle.interval_set.specs.Prefix.{prefix_range}
use Rattle.interval_set.proofs.PrefixLaws.{span_fits, span_of_prefix, prefix_begins, differ}
use Rattle.interval_set.proofs.prefix.prefix_len.Goals as goal

pub overflow_sub-len-3 : goal.overflow_sub-len-3
overflow_sub-len-3 g c = span_fits g.row.W c.args.lo c.args.hi c.requires.width c.requires.ordered c.requires.in_range

pub returns-then-eq-clause-exact : goal.returns-then-eq-clause-exact
returns-then-eq-clause-exact g c len p =
    ap (λ n. Some n) (span_of_prefix g.row.W c.args.lo c.args.hi c.requires.width c.requires.ordered c.requires.in_range len p)

pub returns-else-eq-clause-exact : goal.returns-else-eq-clause-exact
returns-else-eq-clause-exact g c len p =
    let e = span_of_prefix g.row.W c.args.lo c.args.hi c.requires.width c.requires.ordered c.requires.in_range len p in
    absurd (differ _ _ (c.prefix_of.ensures ∙ ap (λ k. prefix_range g.row.W c.args.lo k) e ∙ prefix_begins g.row.W _ len p) (sym c.if-eq.false ∙ c.eq.ensures))
