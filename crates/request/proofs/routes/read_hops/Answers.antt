use Rattle.std.proofs.Common.{◌+◌, drop, map, subst, sym, List}
use Rattle.std.specs.List.{AllZip}
use Rattle.std.proofs.lemmas.List.{at_drop_all}
use Rattle.iface_space.specs.declared.hop.Hop.{Hop}
use Rattle.request.specs.Arguments.{IsRoute}
use Rattle.request.proofs.ReadingLemmas.{handed_on, passed, refused, texts_from, whole}
use Rattle.request.proofs.routes.read_hops.Goals as goal

pub returns-in_err-hop_of-clause-usage : goal.returns-in_err-hop_of-clause-usage
returns-in_err-hop_of-clause-usage g c error =
    let i = c.loop-argument.argument-index in
    refused (IsRoute g.F.Family.Reads g.row.W) (map (λ s. s.now) c.args.arguments.now) (map (λ s. s.now) (drop i c.args.arguments.now)) (map (λ s. s.now) (drop (i + 1) c.args.arguments.now))
    c.as_bytes.result.now c.loop-argument.hops.items c.loop-argument.invariant
    (texts_from c.args.arguments.now i _ c.as_bytes.result.now c.loop-argument-test.true c.as_bytes.ensures.value)
    (c.in_err-hop_of.ensures.usage (handed_on c.from_residual.result _ _ c.from_residual.ensures.1 error))

pub returns-clause-ok : goal.returns-clause-ok
returns-clause-ok g c =
    subst (λ (hops : List Hop). AllZip (IsRoute g.F.Family.Reads g.row.W) (map (λ s. s.now) c.args.arguments.now) hops) (sym c.of.ensures)
    (whole (IsRoute g.F.Family.Reads g.row.W) (map (λ s. s.now) c.args.arguments.now) (map (λ s. s.now) (drop c.loop-argument.argument-index c.args.arguments.now))
    c.loop-argument.hops.items c.loop-argument.invariant (at_drop_all (map (λ s. s.now)) c.args.arguments.now c.loop-argument.argument-index c.loop-argument-test.false))

pub loop-argument-preserved : goal.loop-argument-preserved
loop-argument-preserved g c =
    let i = c.loop-argument.argument-index in
    passed (IsRoute g.F.Family.Reads g.row.W) (map (λ s. s.now) c.args.arguments.now) (map (λ s. s.now) (drop i c.args.arguments.now)) (map (λ s. s.now) (drop (i + 1) c.args.arguments.now))
    c.as_bytes.result.now c.loop-argument.hops.items c.push.new.self.items c.in_ok-hop_of.field-0 c.loop-argument.invariant
    (texts_from c.args.arguments.now i _ c.as_bytes.result.now c.loop-argument-test.true c.as_bytes.ensures.value) c.in_ok-hop_of.ensures.ok c.in_ok-push.ensures.items
