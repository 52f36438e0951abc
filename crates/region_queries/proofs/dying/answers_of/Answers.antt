use Rattle.std.proofs.Common.{◌≡◌, ◌∷◌, List, arith, subst, sym, rules}
use Rattle.std.proofs.lemmas.Result.{err_from_is_err_and}
use Rattle.fw_rule.specs.Walk.{Path}
use Rattle.region_queries.proofs.DeadLemmas.{SoFar, at_first, refused_at}
use Rattle.region_queries.proofs.dying.answers_of.Goals as goal

pub loop-steps-init : goal.loop-steps-init
loop-steps-init g c =
    let e : c.into_iter-steps-iterator.result.rest.items ≡ c.args.paths.items = search rules in
    rw (c.new-visits.ensures.items, e) (at_first c.args.dump.now c.args.chain c.args.paths.items c.requires.listed)

pub returns-in_err-live-clause-refused : goal.returns-in_err-live-clause-refused
returns-in_err-live-clause-refused g c =
    let p = err_from_is_err_and c.from_residual.result c.from_residual.ensures.1 in
    let e : c.loop-steps.steps-iterator.rest.items ≡ c.in-Some.steps ∷ c.next.new.self.rest.items = search rules in
    let s = subst (SoFar c.args.dump.now c.args.chain c.args.paths.items c.loop-steps.visits.items) e c.loop-steps.invariant in
    rw (p.1, p.2) (refused_at c.args.dump.now c.args.chain c.args.paths.items c.requires.listed c.loop-steps.visits.items c.in-Some.steps c.next.new.self.rest.items s c.requires.listable c.in_err-live.field-0.0
    (rw c.as_slice.ensures at c.in_err-live.ensures.refused))
