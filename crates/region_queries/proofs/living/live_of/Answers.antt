use Rattle.std.proofs.Common.{◌∙◌, Some, ap, arith, map, rules}
use Rattle.region_queries.specs.Probe.{own_place}
use Rattle.region_queries.proofs.CheckedLemmas.{probe_checked, probe_policy, room, steps_there, visit_short}
use Rattle.region_queries.proofs.GraphLemmas.{probe_named}
use Rattle.region_queries.proofs.DeadLemmas.{dead_right, few_visits, live_right, never_unexplained}
use Rattle.region_queries.proofs.living.live_of.Goals as goal

pub probe_of-requires-clause-there : goal.probe_of-requires-clause-there
probe_of-requires-clause-there g c = steps_there c.args.dump.now c.args._chain (Some c.args._chain) c.args.visit.now c.requires.visit.follows

pub probe_of-requires-clause-numbers : goal.probe_of-requires-clause-numbers
probe_of-requires-clause-numbers g c = let h = visit_short c.args.dump.now c.args._chain c.args.visit.now c.requires.visit c.requires.within in omega (arith, h, c.requires.few)

pub accepted_packet-requires : goal.accepted_packet-requires
accepted_packet-requires g c = rw (c.in_ok-probe.ensures, c.as_slice.ensures) (
  search rules,
  (
    c.requires.width,
    (
      probe_checked c.args.dump.now c.args._chain c.args.visit.now c.requires.visit c.requires.named c.requires.listable.checked,
      (
        probe_policy c.args.dump.now c.args._chain c.args.visit.now c.requires.visit,
        (
          room c.args.dump.now c.args._chain c.args.visit.now c.requires.visit c.requires.named c.requires.room c.requires.within c.requires.few,
          probe_named c.args.dump.now c.args.visit.now c.requires.named (Some c.args._chain) c.requires.visit.follows,
        ),
      ),
    ),
  ),
)

pub returns-in_default-clause-right : goal.returns-in_default-clause-right
returns-in_default-clause-right g c = dead_right c.args.dump.now c.args._chain c.args.visit.now c.requires.visit c.requires.named c.requires.listable.checked
    (rw (c.in_default.is, c.in_ok-probe.ensures, c.as_slice.ensures) at c.in_ok-packet.ensures.tells)

pub accepting_places-requires : goal.accepting_places-requires
accepting_places-requires g c = rw (c.in_ok-probe.ensures, c.as_slice.ensures) (
  search rules,
  (
    probe_checked c.args.dump.now c.args._chain c.args.visit.now c.requires.visit c.requires.named c.requires.listable.checked,
    (
      few_visits c.args.dump.now c.args._chain c.args.visit.now c.requires.visit c.requires.named c.requires.listable.few,
      (
        room c.args.dump.now c.args._chain c.args.visit.now c.requires.visit c.requires.named c.requires.room c.requires.within c.requires.few,
        probe_named c.args.dump.now c.args.visit.now c.requires.named (Some c.args._chain) c.requires.visit.follows,
      ),
    ),
  ),
)

pub unreachable-requires : goal.unreachable-requires
unreachable-requires g c =
    never_unexplained c.args.dump.now c.args._chain c.args.visit.now c.requires.visit c.requires.named c.requires.listable.checked c.in-Some.packet
    (rw (c.in-Some.is, c.in_ok-probe.ensures, c.as_slice.ensures) at c.in_ok-packet.ensures.tells)
    (rw (c.in-None.is, c.in_ok-probe.ensures, c.as_slice.ensures) at c.in_ok-explained.ensures.explained)

pub returns-clause-right : goal.returns-clause-right
returns-clause-right g c =
    live_right c.args.dump.now c.args._chain c.args.visit.now c.requires.visit c.requires.named c.requires.listable.checked c.in-Some.packet
    (rw (c.in-Some.is, c.in_ok-probe.ensures, c.as_slice.ensures) at c.in_ok-packet.ensures.tells) c.in-Some-2.explained c.in_ok-places-in-Some-2.places
    (rw (c.in-Some-2.is, c.in_ok-probe.ensures, c.as_slice.ensures) at c.in_ok-explained.ensures.explained)
    (c.in_ok-places-in-Some-2.ensures ∙ ap (map (own_place c.args.dump.now c.args.visit.now)) c.as_slice-in-Some-2.ensures)

pub returns-clause-shown : goal.returns-clause-shown
returns-clause-shown g c = (
  (rw (c.in-Some.is, c.in_ok-probe.ensures, c.as_slice.ensures) at c.in_ok-packet.ensures.hits),
  c.in-Some-2.explained,
  (rw (c.in-Some-2.is, c.in_ok-probe.ensures, c.as_slice.ensures) at c.in_ok-explained.ensures.explained),
  c.in_ok-places-in-Some-2.ensures ∙ ap (map (own_place c.args.dump.now c.args.visit.now)) c.as_slice-in-Some-2.ensures,
)
