use Rattle.std.proofs.Common.{◌+◌, drop, map, subst, sym, List}
use Rattle.std.proofs.lemmas.List.{at_drop_all}
use Rattle.request.specs.Arguments.{AreClaims, IsClaim}
use Rattle.request.specs.declared.types.Claim.{Claim}
use Rattle.request.proofs.ReadingLemmas.{handed_on, refused, texts_from, whole}
use Rattle.request.proofs.claims.read_claims.Goals as goal

pub returns-in_err-claim_of-clause-usage : goal.returns-in_err-claim_of-clause-usage
returns-in_err-claim_of-clause-usage g c error =
    let i = c.loop-argument.argument-index in
    refused (IsClaim g.F.Family.Reads g.row.W) (map (λ s. s.now) c.args.arguments.now) (map (λ s. s.now) (drop i c.args.arguments.now)) (map (λ s. s.now) (drop (i + 1) c.args.arguments.now))
    c.as_bytes.result.now c.loop-argument.claims.items c.loop-argument.invariant
    (texts_from c.args.arguments.now i _ c.as_bytes.result.now c.loop-argument-test.true c.as_bytes.ensures.value)
    (c.in_err-claim_of.ensures.usage (handed_on c.from_residual.result _ _ c.from_residual.ensures.1 error))

pub returns-clause-ok : goal.returns-clause-ok
returns-clause-ok g c =
    subst (λ (claims : List Claim). AreClaims g.F.Family.Reads g.row.W (map (λ s. s.now) c.args.arguments.now) claims) (sym c.of.ensures)
    (whole (IsClaim g.F.Family.Reads g.row.W) (map (λ s. s.now) c.args.arguments.now) (map (λ s. s.now) (drop c.loop-argument.argument-index c.args.arguments.now))
    c.loop-argument.claims.items c.loop-argument.invariant (at_drop_all (map (λ s. s.now)) c.args.arguments.now c.loop-argument.argument-index c.loop-argument-test.false))
