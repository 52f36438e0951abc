use Rattle.std.proofs.Common.{drop, map}
use Rattle.iface_space.specs.declared.hop.Hop.{Hop}
use Rattle.request.specs.Arguments.{IsRoute}
use Rattle.request.proofs.ReadingLemmas.{SoFar}
use Rattle.request.proofs.routes.read_hops.Given as goal

abbrev pub invariant-loop-argument : goal.invariant-loop-argument
invariant-loop-argument g l =
    SoFar Hop (IsRoute g.F.Family.Reads g.row.W) (map (λ s. s.now) l.arguments) (map (λ s. s.now) (drop l.argument-index l.arguments)) l.hops.items
