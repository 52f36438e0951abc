use Rattle.std.proofs.Common.{drop, map}
use Rattle.request.specs.Arguments.{IsClaim}
use Rattle.request.specs.declared.types.Claim.{Claim}
use Rattle.request.proofs.ReadingLemmas.{SoFar}
use Rattle.request.proofs.claims.read_claims.Given as goal

abbrev pub invariant-loop-argument : goal.invariant-loop-argument
invariant-loop-argument g l =
    SoFar Claim (IsClaim g.F.Family.Reads g.row.W) (map (λ s. s.now) l.arguments) (map (λ s. s.now) (drop l.argument-index l.arguments)) l.claims.items
