use Rattle.std.proofs.Common.{◌≡◌, Bool, length, lit<, refl, ap, ◌∙◌}
use Rattle.std.specs.Prelude.{Some, slice_get, if◌then◌else◌}
use Rattle.std.proofs.lemmas.Option.{slice_get_read}
use Rattle.interval_set.specs.Numbers.{has}
use Rattle.name_set.specs.Patterns.{fits}
use Rattle.iface_space.specs.Routes.{holds}
use Rattle.iface_space.proofs.Painting.{told_more, told_next, told_same}
use Rattle.iface_space.proofs.routes.told_by.Goals as goal

pub loop-hop-preserved-then-hop-len : goal.loop-hop-preserved-then-hop-len
loop-hop-preserved-then-hop-len g c =
    let hops = c.args.hops.now in
    let i = c.loop-hop.hop-index in
    let at : slice_get hops i ≡ Some c.hop-item.result = slice_get_read hops (length hops) i c.hop-item.result refl c.loop-hop-test.true c.hop-item.is in
    told_same g.row.W hops (fits c.args.by.now) c.args.len i c.loop-hop.found c.hop-item.result at c.if-hop-len.true c.loop-hop.invariant

pub with_hop-requires : goal.with_hop-requires
with_hop-requires g c =
    let hops = c.args.hops.now in
    let i = c.loop-hop.hop-index in
    let at : slice_get hops i ≡ Some c.hop-item.result = slice_get_read hops (length hops) i c.hop-item.result refl c.loop-hop-test.true c.hop-item.is in
    (lit< tt, (c.requires.width, c.requires.hops i c.hop-item.result at))

pub loop-hop-preserved : goal.loop-hop-preserved
loop-hop-preserved g c =
    let hops = c.args.hops.now in
    let i = c.loop-hop.hop-index in
    let hop = c.hop-item.result in
    let at : slice_get hops i ≡ Some hop = slice_get_read hops (length hops) i hop refl c.loop-hop-test.true c.hop-item.is in
    let name = c.matches-counts.ensures ∙ ap (fits c.args.by.now) c.as_slice.ensures in
    told_more g.row.W hops (fits c.args.by.now) c.requires.cleared c.requires.differ c.args.len i c.loop-hop.found c.in_ok-found.found hop at
    c.if-hop-len.false c.in_ok-found.ensures.set
    (λ d. c.in_ok-found.ensures.numbers d
    ∙ ap (λ (b : Bool). if holds g.row.W d hop then b else has c.loop-hop.found d) name)
    c.loop-hop.invariant

pub returns : goal.returns
returns g c = told_next g.row.W c.args.hops.now (fits c.args.by.now) c.args.len c.loop-hop.hop-index c.loop-hop.found c.loop-hop-test.false c.loop-hop.invariant
