use Rattle.std.proofs.Common.{◌∙◌, ap, arith, subst, sym}
use Rattle.std.proofs.lemmas.Result.{err_from_is_err_and}
use Rattle.fw_rule.specs.declared.side.Side.{Side}
use Rattle.simple_filter.specs.Closed.{Accepts}
use Rattle.simple_filter.specs.Hidden.{hidden}
use Rattle.simple_filter.specs.declared.hiding.Hide.{Hide}
use Rattle.request.specs.Spaces.{set_of}
use Rattle.fffuu_run.proofs.SpoofCauses.{refused_one, searched_comes, verdicts_within}
use Rattle.fffuu_run.proofs.SpoofLemmas.{next_verdict}
use Rattle.fffuu_run.proofs.spoofing.verdicts_of.Goals as goal

pub verdict-requires : goal.verdict-requires
verdict-requires g c =
    let meaning = subst (Accepts Side.Upper (hidden Hide.OutNames c.args.dump.now) c.args.chain c.args.policy) (sym c.as_slice-in-loop-claim.ensures)
    (c.in_ok-rules.ensures.meaning c.args.policy c.requires.policy) in (
      omega arith,
      (
        omega arith,
        (omega arith, (c.requires.width, (c.as_slice-in-loop-claim.ensures ∙ c.in_ok-rules.ensures.rules, (c.in_ok-rules.ensures.closed, (c.requires.policy, meaning))))),
      ),
    )

pub returns-in_err-rules-clause-refused : goal.returns-in_err-rules-clause-refused
returns-in_err-rules-clause-refused g c =
    let refused = searched_comes c.args.dump.now c.args.chain c.args.claims.now c.in_err-rules.field-0.0 c.in_err-rules.ensures.refused in
    let p = err_from_is_err_and c.from_residual.result c.from_residual.ensures.1 in
    rw (p.1, p.2) refused

pub returns-in_err-found-clause-refused : goal.returns-in_err-found-clause-refused
returns-in_err-found-clause-refused g c =
    let refused = refused_one c.args.dump.now c.args.chain c.args.claims.now c.loop-claim.claim-index c.claim-item.result c.loop-claim-test.true c.claim-item.is
    c.as_slice-name.result.now c.in_ok-inside.inside c.as_slice-name.ensures (c.in_ok-inside.ensures ∙ ap (set_of g.row.W) c.as_slice.ensures)
    c.in_err-found.field-0.0 c.in_err-found.ensures.regions c.in_err-found.ensures.refused in
    let p = err_from_is_err_and c.from_residual-in_err-found.result c.from_residual-in_err-found.ensures.1 in
    rw (p.1, p.2) refused

pub returns-clause-within : goal.returns-clause-within
returns-clause-within g c =
    verdicts_within c.args.dump.now c.args.chain c.args.claims.now c.loop-claim.claim-index (omega (arith, c.loop-claim-test.false))
    g.F.Family.text_of c.loop-claim.text.items c.in_ok-rules.ensures.closed c.loop-claim.invariant

pub loop-claim-preserved : goal.loop-claim-preserved
loop-claim-preserved g c =
    next_verdict c.args.dump.now c.args.chain c.args.claims.now c.loop-claim.claim-index c.claim-item.result c.loop-claim-test.true c.claim-item.is
    c.as_slice-name.result.now c.in_ok-inside.inside c.as_slice-name.ensures (c.in_ok-inside.ensures ∙ ap (set_of g.row.W) c.as_slice.ensures)
    g.F.Family.text_of c.loop-claim.text.items c.deref.result.now c.extend_from_slice.new.self.items c.in_ok-found.found c.loop-claim.invariant
    c.in_ok-found.ensures.right c.in_ok-found.ensures.whole c.in_ok-found.ensures.shown
    (c.deref.ensures.value ∙ c.in_ok-verdict_line.ensures) c.in_ok-extend_from_slice.ensures.items
